-- The lowest number that fails a test, and how many below a bound pass it: where all below the bound pass, the lowest one is the bound and the
-- count is the bound; otherwise the count is smaller. It is below any bound past which none passes, too, where the lowest one is.
use mathlib.Core.Path.{◌≡◌, refl}
use mathlib.Core.Bool.{Bool, true, false, not}
use mathlib.Core.Logic.{◌⊎◌, inl, inr, ⊎_elim}
use Prim.Native.Nat.{ℕ, suc, ◌+◌, ◌≤◌, ◌<◌, max}
use native.Mathlib.Omega.{arith}
use borrow.Author.Tests.{not-true, not-false}
use Rattle.laws.specs.Counting.{count, first}
use Rattle.laws.proofs.Deciding.{lt-or-le}
use Rattle.laws.proofs.Counting.{count-all, count-le, count-grows, count_less}
use Rattle.laws.proofs.First.{first-le, first_holds, first-least}
use Rattle.laws.proofs.Further.{count-further}

module _ (u : ℕ → Bool) (k : ℕ) where
  abbrev lowest : ℕ
  lowest = first (λ x. not (u x)) k

  -- below the bound, or the bound itself, and one past it is then past the bound
  pub lowest-is : ((lowest < k) × (u lowest ≡ false) × (max k (lowest + 1) ≡ k)) ⊎ ((lowest ≡ k) × (max k (lowest + 1) ≡ suc k) × ((x : ℕ) → x < k → u x ≡ true))
  lowest-is = ⊎_elim (λ l. inl (l, not-true _ (first_holds (λ x. not (u x)) k l), omega arith)) above (lt-or-le lowest k)
    where
      above : k ≤ lowest → ((lowest < k) × (u lowest ≡ false) × (max k (lowest + 1) ≡ k)) ⊎ ((lowest ≡ k) × (max k (lowest + 1) ≡ suc k) × ((x : ℕ) → x < k → u x ≡ true))
      above l = inr (omega (arith, first-le (λ x. not (u x)) k), omega (arith, first-le (λ x. not (u x)) k), λ x h. not-false _ (first-least (λ x. not (u x)) k x (omega arith)))

  -- one more than the count and one more than the lowest are past the bound together
  pub count-by-lowest : max k (count u k + 1) ≡ max k (lowest + 1)
  count-by-lowest = ⊎_elim (λ h. omega (arith, h.0, count_less u k lowest h.0 h.1)) (λ h. omega (arith, h.0, count-all u k h.2)) lowest-is

  -- where no number from n on passes and the lowest that fails is below n, fewer than n pass
  pub count-below : (n : ℕ) → ((x : ℕ) → n ≤ x → x < k → u x ≡ false) → lowest < n → count u k < n
  count-below n none l = ⊎_elim
      (λ h. omega (arith, count_less u n lowest l h.1, count-grows u k (max n k) (omega arith), count-further u u n k (λ x m. refl) none))
      (λ h. omega (arith, h.0, count-le u k))
      lowest-is
