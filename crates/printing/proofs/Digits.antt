-- A number's decimal digits. The definition gives as many turns as one more than the number; any number of turns above the number does as well, so that the
-- last digit comes after the digits of the tenth. As many digits as the number needs, none in front of them a zero, and read as figures they are the number.
use mathlib.Core.Path.{◌≡◌}
use mathlib.Core.List.{[], ◌∷◌, ◌++◌}
use mathlib.Core.Logic.{⊎_elim}
use Prim.Native.Nat.{ℕ, zero, suc, ◌+◌, ◌/◌, ◌%◌, ◌^◌, ◌≤◌, ◌<◌}
use native.Mathlib.Nat.{pow-succ'}
use native.Mathlib.Omega.{arith}
use lib.ListN.{length}
use borrow.Author.Tests.{lt-ltb, le-ltb}
use Rattle.laws.proofs.Deciding.{lt-or-le}
use Rattle.text.specs.Written as written
use Rattle.text.proofs.Decimals.{Writes, decimal-writes}
use Rattle.printing.specs.Output.{decimal}

same_digits : (j k n : ℕ) → n < j → n < k → written.decimal j n ≡ written.decimal k n
unfolding written.decimal
same_digits zero k n a b = absurd (omega arith)
same_digits (suc j) zero n a b = absurd (omega arith)
same_digits (suc j) (suc k) n a b = ⊎_elim
    (λ l. rw (lt-ltb n 10 l))
    (λ l. rw (le-ltb n 10 l, same_digits j k (n / 10) (omega arith) (omega arith)))
    (lt-or-le n 10)

pub one-digit : (n : ℕ) → n < 10 → decimal n ≡ (48 + n) ∷ []
unfolding decimal written.decimal
one-digit n l = rw lt-ltb

pub last-digit : (n : ℕ) → 10 ≤ n → decimal n ≡ decimal (n / 10) ++ ((48 + n % 10) ∷ [])
unfolding decimal written.decimal
last-digit n l = rw (le-ltb n 10 l, same_digits n (suc (n / 10)) (n / 10) (omega arith) (omega arith))

below_power : (n : ℕ) → n < 10 ^ suc n
below_power zero = omega arith
below_power (suc n) = omega (arith, below_power n, pow-succ' 10 (suc n))

-- a number below a power of ten has no more digits than the power says
pub few-digits : (most n : ℕ) → n < 10 ^ suc most → length (decimal n) ≤ suc most
unfolding decimal
few-digits most n h = (decimal-writes (suc n) (suc most) n (below_power n) h (omega arith) (omega arith)).few

-- digits only, no zero in front of another digit, and the number comes out of them again
pub decimal-is : (n : ℕ) → Writes (suc n) (decimal n) n
unfolding decimal
decimal-is n = decimal-writes (suc n) (suc n) n (below_power n) (below_power n) (omega arith) (omega arith)
