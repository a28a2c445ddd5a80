-- Laws of `first` and `some_below`: the first number below n that passes a test passes it and none before it does, which is true of no other number;
-- and some_below tells whether there is a number that passes.
use mathlib.Core.Path.{◌≡◌, refl, sym, ap, ◌∙◌}
use mathlib.Core.Bool.{Bool, true, false}
use mathlib.Core.Logic.{⊎_elim}
use Prim.Native.Nat.{ℕ, zero, suc, ◌+◌, ◌≤◌, ◌<◌}
use native.Mathlib.Omega.{arith}
use Rattle.laws.specs.Counting.{some_below, first_from, first}
use Rattle.laws.proofs.Deciding.{lt-or-le, true-or-false, not-both}

module _ (p : ℕ → Bool) where
  from-range : (n i : ℕ) → (i ≤ first_from p n i) × (first_from p n i ≤ i + n)
  unfolding first_from
  from-range zero i = (omega arith, omega arith)
  from-range (suc n) i =
      let h = from-range n (suc i) in
      ⊎_elim (λ e. rw e (omega arith, omega arith)) (λ e. rw e (omega arith, omega arith)) (true-or-false (p i))

  from-holds : (n i : ℕ) → first_from p n i < i + n → p (first_from p n i) ≡ true
  unfolding first_from
  from-holds zero i l = absurd (omega arith)
  from-holds (suc n) i l = ⊎_elim
      (λ e. rw e e)
      (λ e. let h = rw e at l in rw e (from-holds n (suc i) (omega arith)))
      (true-or-false (p i))

  from-least : (n i k : ℕ) → i ≤ k → k < first_from p n i → p k ≡ false
  unfolding first_from
  from-least zero i k ik l = absurd (omega arith)
  from-least (suc n) i k ik l = ⊎_elim
      (λ e. let h = rw e at l in absurd (omega arith))
      (λ e. ⊎_elim (λ t. from-least n (suc i) k (omega arith) (rw e at l)) (λ t. let q : k ≡ i = omega arith in ap p q ∙ e) (lt-or-le i k))
      (true-or-false (p i))

  pub first-le : (n : ℕ) → first p n ≤ n
  unfolding first
  first-le n = omega (arith, from-range n 0)

  pub first_holds : (n : ℕ) → first p n < n → p (first p n) ≡ true
  unfolding first
  first_holds n l = from-holds n 0 (omega arith)

  pub first-least : (n k : ℕ) → k < first p n → p k ≡ false
  unfolding first
  first-least n k l = from-least n 0 k (omega arith) l

  pub first-is : (n r : ℕ) → r ≤ n → (r < n → p r ≡ true) → ((k : ℕ) → k < r → p k ≡ false) → r ≡ first p n
  first-is n r l holds least = ⊎_elim
      (λ h. absurd (not-both (holds (omega (arith, first-le n))) (first-least n r h)))
      (λ h. ⊎_elim (λ g. absurd (not-both (first_holds n (omega arith)) (least (first p n) g))) (λ g. omega arith) (lt-or-le (first p n) r))
      (lt-or-le r (first p n))

  pub first-none : (n : ℕ) → ((k : ℕ) → k < n → p k ≡ false) → first p n ≡ n
  first-none n h = sym (first-is n n (omega arith) (λ l. absurd (omega arith)) h)

  pub some-below-true : (n : ℕ) → some_below p n ≡ true → (k : ℕ) × (k < n) × (p k ≡ true)
  unfolding some_below
  some-below-true zero e = absurd (not-both e refl)
  some-below-true (suc n) e = ⊎_elim
      (λ q. (n, omega arith, q))
      (λ q. let v = some-below-true n (rw q at e) in (v.0, omega (arith, v.1), v.2))
      (true-or-false (p n))

  pub none_below : (n : ℕ) → some_below p n ≡ false → (k : ℕ) → k < n → p k ≡ false
  unfolding some_below
  none_below zero e k l = absurd (omega arith)
  none_below (suc n) e k l = ⊎_elim
      (λ q. absurd (not-both refl (rw q at e)))
      (λ q. ⊎_elim (λ t. none_below n (rw q at e) k t) (λ t. let s : k ≡ n = omega arith in ap p s ∙ q) (lt-or-le k n))
      (true-or-false (p n))

  pub below-some : (n k : ℕ) → k < n → p k ≡ true → some_below p n ≡ true
  below-some n k l e = ⊎_elim (λ h. h) (λ h. absurd (not-both e (none_below n h k l))) (true-or-false (some_below p n))

  pub below_none : (n : ℕ) → ((k : ℕ) → k < n → p k ≡ false) → some_below p n ≡ false
  below_none n h = ⊎_elim
      (λ t. let v = some-below-true n t in absurd (not-both v.2 (h v.0 v.1)))
      (λ t. t)
      (true-or-false (some_below p n))

pub first-same : (p q : ℕ → Bool) (n : ℕ) → ((k : ℕ) → k < n → p k ≡ q k) → first p n ≡ first q n
first-same p q n e = first-is q n (first p n) (first-le p n) holds least
  where
    holds : first p n < n → q (first p n) ≡ true
    holds l = sym (e (first p n) l) ∙ first_holds p n l

    least : (k : ℕ) → k < first p n → q k ≡ false
    least k l = sym (e k (omega (arith, first-le p n))) ∙ first-least p n k l
