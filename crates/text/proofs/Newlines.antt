-- Counting a text's lines: newlines one by one, and one line more where the last is unended.
use mathlib.Core.Path.{◌≡◌, refl, ap, ◌∙◌}
use mathlib.Core.Bool.{Bool, true, false, cond}
use mathlib.Core.List.{List, [], ◌∷◌}
use Prim.Native.Nat.{ℕ, suc, ◌+◌, ◌≤◌}
use native.Mathlib.Omega.{arith}
use lib.Dec.{eqb}
use lib.ListN.{length}
use mir.Val.{bool_byte}
use Rattle.std.specs.Prelude.{count_by}
use Rattle.std.proofs.lemmas.List.Recursion.{is_count_by}
use Rattle.laws.specs.Counting.{bit, count}
use Rattle.laws.proofs.Counting.{count_same, count-le, count-split}
use Rattle.text.specs.Numbers.{byte_at}
use Rattle.text.specs.Texts.{newline_at, newlines, unended, line_count}

-- the newlines, byte by byte from the front
one_more : (t : Bool) (n : ℕ) → bit t + n ≡ cond t (1 + n) n
one_more true n = refl
one_more false n = omega arith

newlines-step : (b : ℕ) (s : List ℕ) → newlines (b ∷ s) ≡ cond (eqb b 10) (1 + newlines s) (newlines s)
unfolding newlines newline_at byte_at count
newlines-step b s =
    let p = newline_at (b ∷ s) in
    let q : suc (length s) ≡ 1 + length s = omega arith in
    let first : count p 1 ≡ bit (eqb b 10) = omega arith in
    let more = count_same (λ i. p (1 + i)) (newline_at s) (length s) (λ i l. let e : 1 + i ≡ suc i = omega arith in ap p e) in
    ap (count p) q ∙ count-split p 1 (length s) ∙ omega (arith, first, more) ∙ one_more (eqb b 10) (newlines s)

newlines-none : newlines [] ≡ 0
unfolding newlines count
newlines-none = refl

pub newlines-counted : (s : List ℕ) → newlines s ≡ count_by (λ b. eqb b 10) s
newlines-counted s = is_count_by newlines (λ b. eqb b 10) newlines-none newlines-step s

as-bit : (t : Bool) → bool_byte t ≡ bit t
as-bit true = refl
as-bit false = refl

pub newlines-le : (s : List ℕ) → newlines s ≤ length s
unfolding newlines
newlines-le s = count-le (newline_at s) (length s)

pub counted-all : (s : List ℕ) {n r : ℕ} → n ≡ count_by (λ b. eqb b 10) s → r ≡ bool_byte (unended s) → n + r ≡ line_count s
unfolding line_count
counted-all s e f = omega (arith, e, f, newlines-counted s, as-bit (unended s))
