-- Laws of `largest`: no value below n is above it, one is equal to it, and this is true of no other number.
use mathlib.Core.Path.{◌≡◌, ap}
use mathlib.Core.Logic.{⊎_elim}
use Prim.Native.Nat.{ℕ, zero, suc, ◌≤◌, ◌<◌}
use native.Mathlib.Omega.{arith}
use Rattle.laws.specs.Counting.{largest}
use Rattle.laws.proofs.Deciding.{lt-or-le}

module _ (f : ℕ → ℕ) where
  pub largest-bound : (n k : ℕ) → k < n → f k ≤ largest f n
  unfolding largest
  largest-bound zero k l = absurd (omega arith)
  largest-bound (suc n) k l = ⊎_elim
      (λ t. omega (arith, largest-bound n k t))
      (λ t. let q : k ≡ n = omega arith in omega (arith, ap f q))
      (lt-or-le k n)

  pub largest-met : (n : ℕ) → 0 < n → (k : ℕ) × (k < n) × (f k ≡ largest f n)
  unfolding largest
  largest-met zero l = absurd (omega arith)
  largest-met (suc n) l = ⊎_elim
      (λ h. let v = largest-met n (some h) in (v.0, omega (arith, v.1), omega (arith, h, v.2)))
      (λ h. (n, omega arith, omega arith))
      (lt-or-le (f n) (largest f n))
    where
      some : f n < largest f n → 0 < n
      some h = ⊎_elim (λ t. t) (λ t. let q : n ≡ 0 = omega arith in absurd (omega (arith, h, ap (largest f) q))) (lt-or-le 0 n)

  pub largest-is : (n r k : ℕ) → ((j : ℕ) → j < n → f j ≤ r) → k < n → f k ≡ r → r ≡ largest f n
  largest-is n r k above l e = let v = largest-met n (omega arith) in omega (arith, largest-bound n k l, v.2, above v.0 v.1)
