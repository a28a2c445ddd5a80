-- What the library's `find` answers over the numbers below n, where the closure computes a test: the first that passes it.
use Rattle.std.specs.Prelude.{◌≡◌, Bool, true, false, ℕ, ◌+◌, ◌-◌, ◌<◌, ◌≤◌, Option, MatchOption}
use mathlib.Core.Path.{sym}
use native.Mathlib.Omega.{arith}
use denote.Ref.{Bor}
use denote.Param.Members.{Mut}
use Rattle.std.specs.declared.option.Option.TheVariants.{None, Some}
use Rattle.std.specs.declared.ops.Range.{Range}
use Rattle.std.specs.Fn.{CalledAt}
use Rattle.std.specs.Iterator.{FindsItem}
use Rattle.std.specs.Range.{range_steps}
use Rattle.std.proofs.lemmas.Iterator.{first_from_Range}
use Rattle.laws.specs.Counting.{IsFirst}
use Rattle.laws.proofs.Searching.{found_first, found_none}

module _ (p : ℕ → Bool) (n : ℕ) where
  is-first : (r : Option ℕ) → MatchOption r ((k : ℕ) → 0 ≤ k → k < n → p k ≡ false) (λ i. (0 ≤ i) × (i < n) × (p i ≡ true) × ((k : ℕ) → 0 ≤ k → k < i → p k ≡ false)) → IsFirst p n r
  is-first None h = sym (found_none p (λ k l. h k (omega arith) l) (omega arith))
  is-first (Some i) h = (h.1, found_first p (λ k l. h.3 k (omega arith) l) h.1 h.2)

  pub first-found : {F : Type 0} {g : Mut F (Bor ℕ × Unit {0}) Bool} (u : Range ℕ) (f : F) (r : Option ℕ)
      → FindsItem (range_steps (λ a b. b - a) (λ a b. b ≡ a + 1)) g (record { start = 0; end = n }) f r u
      → ((k : ℕ) (b : Bool) (q : F) → CalledAt g f k b q → (q ≡ f) × (b ≡ p k))
      → IsFirst p n r
  first-found u f r found called = is-first r (first_from_Range (record { start = 0; end = n }) u f r (λ k. p k ≡ true) (λ k. p k ≡ false) found
      (λ k q c. sym (called k true q c).1)
      (λ k q c. let h = called k false q c in (h.0, sym h.1)))
