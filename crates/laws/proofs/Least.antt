-- Where some number below n passes a test, there is one among those that pass at which a function is least: the first of the values that it has there.
use mathlib.Core.Path.{◌≡◌, refl}
use mathlib.Core.Bool.{Bool, true, ◌&&◌}
use mathlib.Core.Logic.{⊎_elim}
use Prim.Native.Nat.{ℕ, suc, ◌≤◌, ◌<◌}
use native.Mathlib.Omega.{arith}
use lib.Dec.{eqb}
use borrow.Author.Tests.{eq-eqb, eqb-true}
use Rattle.laws.specs.Counting.{some_below, first}
use Rattle.laws.proofs.Deciding.{lt-or-le, both_true, not-both}
use Rattle.laws.proofs.First.{first_holds, first-least, some-below-true, below-some}

module _ (p : ℕ → Bool) (f : ℕ → ℕ) (n : ℕ) where
  -- some number that passes has the value v
  abbrev taken : ℕ → Bool
  taken v = some_below (λ i. p i && eqb (f i) v) n

  takes : (i : ℕ) → i < n → p i ≡ true → taken (f i) ≡ true
  takes i l e = below-some (λ j. p j && eqb (f j) (f i)) n i l (rw e (eq-eqb (f i) (f i) refl))

  pub least-passing : (k : ℕ) → k < n → p k ≡ true → (i : ℕ) × (i < n) × (p i ≡ true) × ((j : ℕ) → j < n → p j ≡ true → f i ≤ f j)
  least-passing k l e =
      let v = some-below-true (λ i. p i && eqb (f i) least) n (first_holds taken (suc (f k)) (none_before k l e)) in
      let h = both_true _ _ v.2 in
      let q : f v.0 ≡ least = eqb-true _ _ h.1 in
      (v.0, v.1, h.0, λ j jl je. omega (arith, q, none_before j jl je))
    where
      least : ℕ
      least = first taken (suc (f k))

      none_before : (j : ℕ) → j < n → p j ≡ true → least < suc (f j)
      none_before j jl je = ⊎_elim (λ h. h) (λ h. absurd (not-both (takes j jl je) (first-least taken (suc (f k)) (f j) h))) (lt-or-le least (suc (f j)))
