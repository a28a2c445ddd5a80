-- Tests on the numbers below a bound: how many pass, whether one passes, the first that passes; and the largest value of a function there.
-- Each is a function that computes.
use Rattle.std.specs.Prelude.{◌≡◌, ℕ, zero, suc, ◌+◌, ◌<◌, max, Bool, true, false, cond, ◌||◌, Option, MatchOption}

abbrev pub bit : Bool → ℕ
bit true = 1
bit false = 0

-- how many numbers below n pass the test
unfoldable pub count : (ℕ → Bool) → ℕ → ℕ
count p zero = 0
count p (suc n) = bit (p n) + count p n

-- whether some number below n passes the test
unfoldable pub some_below : (ℕ → Bool) → ℕ → Bool
some_below p zero = false
some_below p (suc n) = p n || some_below p n

-- the first number from i on that passes the test, n tried; i + n where none of them does
unfoldable pub first_from : (ℕ → Bool) → ℕ → ℕ → ℕ
first_from p zero i = i
first_from p (suc n) i = cond (p i) i (first_from p n (suc i))

-- the first number below n that passes the test, n where none does
unfoldable pub first : (ℕ → Bool) → ℕ → ℕ
first p n = first_from p n 0

-- a search below n answers with the first number that passes the test, None where none does
abbrev pub IsFirst : (ℕ → Bool) → ℕ → Option ℕ → Type 0
IsFirst p n r = MatchOption r (first p n ≡ n) (λ k. (k < n) × (k ≡ first p n))

-- the largest of f 0 to f (n - 1), 0 where n is 0
unfoldable pub largest : (ℕ → ℕ) → ℕ → ℕ
largest f zero = 0
largest f (suc n) = max (f n) (largest f n)
