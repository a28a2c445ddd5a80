-- The whole part of the binary logarithm of n: the first l with n below 2 ^ (l + 1). There is one below n, since n is below 2 ^ n; and 2 ^ l is not
-- above n, since l - 1 was not it.
use mathlib.Core.Path.{◌≡◌, refl}
use mathlib.Core.Logic.{⊎_elim}
use Prim.Native.Nat.{ℕ, zero, suc, ◌^◌, ◌≤◌, ◌<◌}
use native.Mathlib.Omega.{arith}
use lib.Dec.{ltb}
use lib.Pow.{pow_mono}
use borrow.Author.Tests.{ltb-true, ltb-false}
use Rattle.laws.specs.Counting.{first}
use Rattle.laws.proofs.Deciding.{lt-or-le}
use Rattle.laws.proofs.First.{first_holds, first-least}

unfoldable pub whole_log2 : ℕ → ℕ
whole_log2 n = first (λ l. ltb n (2 ^ suc l)) n

below_power : (n : ℕ) → n < 2 ^ n
below_power zero = omega arith
below_power (suc n) = omega (arith, below_power n)

found : (n : ℕ) → 0 < n → whole_log2 n < n
unfolding whole_log2
found zero l = absurd (omega arith)
found (suc m) l = ⊎_elim (λ h. h) (λ h. absurd (omega (arith, below_power (suc m), ltb-false (suc m) (2 ^ suc m) (first-least (λ l. ltb (suc m) (2 ^ suc l)) (suc m) m (omega arith))))) (lt-or-le (whole_log2 (suc m)) (suc m))

pub log2-under : (n : ℕ) → 0 < n → n < 2 ^ suc (whole_log2 n)
unfolding whole_log2
log2-under n l = ltb-true _ _ (first_holds (λ l. ltb n (2 ^ suc l)) n (found n l))

pub log2-at-least : (n : ℕ) → 0 < n → 2 ^ whole_log2 n ≤ n
unfolding whole_log2
log2-at-least n l = by (whole_log2 n) refl
  where
    by : (k : ℕ) → whole_log2 n ≡ k → 2 ^ k ≤ n
    by zero e = omega arith
    by (suc k) e = ltb-false _ _ (first-least (λ l. ltb n (2 ^ suc l)) n k (omega arith))

-- n reaches 2 ^ a, and not 2 ^ (b + 1)
pub log2-ordered : (n a b : ℕ) → 2 ^ a ≤ n → n < 2 ^ suc b → a ≤ b
log2-ordered n a b l h = ⊎_elim (λ o. absurd (omega (arith, l, h, pow_mono o))) (λ o. o) (lt-or-le b a)
