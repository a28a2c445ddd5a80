-- Bytes that stand in a text at a place: side by side, and one by one.
use mathlib.Core.Path.{◌≡◌, sym, ap, ◌∙◌}
use mathlib.Core.List.{List, [], ◌∷◌, ◌++◌}
use mathlib.Core.Logic.{⊎_elim}
use Prim.Native.Nat.{ℕ, zero, suc, ◌+◌, ◌-◌, ◌<◌}
use native.Mathlib.Omega.{arith}
use lib.ListN.{length, length-append, get_or-append}
use lib.Seq.{get_or-append-add}
use Rattle.laws.proofs.Deciding.{lt-or-le}
use Rattle.text.specs.Numbers.{byte_at}

-- w stands in s at i
abbrev pub Spelled : List ℕ → ℕ → List ℕ → Type 0
Spelled s i w = (k : ℕ) → k < length w → byte_at s (i + k) ≡ byte_at w k

module _ (s : List ℕ) (i : ℕ) (v w : List ℕ) (h : Spelled s i (v ++ w)) where
  pub spelled-left : Spelled s i v
  unfolding byte_at
  spelled-left k l = h k (omega (arith, length-append v w)) ∙ get_or-append v w 256 k l

  pub spelled-right : Spelled s (i + length v) w
  unfolding byte_at
  spelled-right k l =
      let e : i + length v + k ≡ i + (length v + k) = omega arith in
      ap (byte_at s) e ∙ h (length v + k) (omega (arith, length-append v w)) ∙ get_or-append-add v w k 256

pub spelled-join : (s : List ℕ) (i : ℕ) (v w : List ℕ) → Spelled s i v → Spelled s (i + length v) w → Spelled s i (v ++ w)
unfolding byte_at
spelled-join s i v w a b k l = ⊎_elim
    (λ g. a k g ∙ sym (get_or-append v w 256 k g))
    (λ g.
    let p : i + k ≡ i + length v + (k - length v) = omega arith in
    let q : length v + (k - length v) ≡ k = omega arith in
    ap (byte_at s) p ∙ b (k - length v) (omega (arith, length-append v w)) ∙ sym (get_or-append-add v w (k - length v) 256) ∙ ap (byte_at (v ++ w)) q)
    (lt-or-le k (length v))

pub spelled-byte : (s : List ℕ) (i b : ℕ) → byte_at s i ≡ b → Spelled s i (b ∷ [])
unfolding byte_at
spelled-byte s i b e zero l = let q : i + 0 ≡ i = omega arith in ap (byte_at s) q ∙ e
spelled-byte s i b e (suc k) l = absurd (omega arith)
