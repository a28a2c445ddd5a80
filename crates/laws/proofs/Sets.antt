-- A run of stores: what a copy leaves is one, the stored numbers stand where they were stored, and every other number is what it was.
use mathlib.Core.Path.{◌≡◌, refl, ◌∙◌}
use mathlib.Core.Logic.{◌⊎◌, inl, inr, ⊎_elim}
use mathlib.Core.List.{List, [], ◌∷◌}
use Prim.Native.Nat.{ℕ, zero, suc, ◌+◌, ◌≤◌, ◌<◌}
use native.Mathlib.Omega.{arith}
use lib.ListN.{length, get_or, set, length-set}
use lib.Seq.{sets, sets-eq, get_or-set_same, get_or-set_other}
use borrow.Rule.Slice.PartMut.{put_mid}
use Rattle.std.proofs.lemmas.Grind.{common_steps}

-- numbers copied to b are stores from b on
pub copied-sets : {A : Type 0} (l vs ws : List A) (b n : ℕ) → vs ≡ ws → n ≡ length ws → b + n ≤ length l → put_mid b n l vs ≡ sets l b ws
copied-sets l vs ws b n e m h = rw (e, sets-eq ws l b (omega arith), m) (grind (arith, common_steps))

module _ {A : Type 0} (d : A) where
  pub get_or-sets-other : (vs l : List A) (i j : ℕ) → (j < i) ⊎ (i + length vs ≤ j) → get_or (sets l i vs) j d ≡ get_or l j d
  get_or-sets-other [] l i j h = refl
  get_or-sets-other (a ∷ vs) l i j h =
      get_or-sets-other vs (set l i a) (suc i) j (⊎_elim (λ e. inl (omega arith)) (λ e. inr (omega arith)) h)
      ∙ get_or-set_other l i j a d (λ e. ⊎_elim (λ b. omega arith) (λ b. omega arith) h)

  pub get_or-sets-in : (vs l : List A) (i k : ℕ) → k < length vs → i + length vs ≤ length l → get_or (sets l i vs) (i + k) d ≡ get_or vs k d
  get_or-sets-in [] l i k h f = absurd (omega arith)
  get_or-sets-in (a ∷ vs) l i zero h f =
      let e : i + 0 ≡ i = omega arith in
      rw e (get_or-sets-other vs (set l i a) (suc i) i (inl (omega arith)) ∙ get_or-set_same l i a d (omega arith))
  get_or-sets-in (a ∷ vs) l i (suc k) h f =
      let e : i + suc k ≡ suc i + k = omega arith in
      rw e (get_or-sets-in vs (set l i a) (suc i) k (omega arith) (simp length-set (omega arith)))
