-- Laws of `digit`: what a number's digits are after one of them is set or cleared, in its complement, and below its lowest digit that is set.
-- Each goes through the digits from the lowest on, by what the operation is of the halves.
use mathlib.Core.Path.{◌≡◌, refl, ap, ◌∙◌}
use mathlib.Core.Logic.{◌⊎◌, inl, inr, ⊎_elim}
use Prim.Native.Nat.{ℕ, zero, suc, ◌-◌, ◌*◌, ◌/◌, ◌%◌, ◌^◌, ◌≤◌, ◌<◌, min, max}
use native.Mathlib.Nat.{mod-eq_of_lt, one-mul}
use native.Mathlib.Omega.{arith}
use lib.Bits.{bit_and, bit_or, and_step, or_step}
use lib.Count.{under, count_trailing_zeros}
use lib.Pow.{pow_pos, pow-lt}
use Rattle.laws.specs.Digits.{digit}
use Rattle.laws.proofs.Deciding.{eq-or-ne}

pub digit-le : (x k : ℕ) → digit x k ≤ 1
unfolding digit
digit-le x zero = omega arith
digit-le x (suc k) = digit-le (x / 2) k

pub digit-of-0 : (k : ℕ) → digit 0 k ≡ 0
unfolding digit
digit-of-0 zero = refl
digit-of-0 (suc k) = digit-of-0 k

digit_or : (a b k : ℕ) → digit (bit_or a b) k ≡ max (digit a k) (digit b k)
unfolding digit
digit_or a b zero = omega (arith, or_step a b)
digit_or a b (suc k) =
    let half : bit_or a b / 2 ≡ bit_or (a / 2) (b / 2) = omega (arith, or_step a b) in
    ap (λ (x : ℕ). digit x k) half ∙ digit_or (a / 2) (b / 2) k

digit_and : (a b k : ℕ) → digit (bit_and a b) k ≡ min (digit a k) (digit b k)
unfolding digit
digit_and a b zero = omega (arith, and_step a b)
digit_and a b (suc k) =
    let half : bit_and a b / 2 ≡ bit_and (a / 2) (b / 2) = omega (arith, and_step a b) in
    ap (λ (x : ℕ). digit x k) half ∙ digit_and (a / 2) (b / 2) k

-- 2 ^ k has digit k set, and no other
digit-power : (k : ℕ) → digit (2 ^ k) k ≡ 1
unfolding digit
digit-power zero = refl
digit-power (suc k) = let half : 2 ^ suc k / 2 ≡ 2 ^ k = omega arith in ap (λ (x : ℕ). digit x k) half ∙ digit-power k

-- the code's 1 << k, in w bits
pub one_shifted : (w k : ℕ) → k < w → 1 * 2 ^ k % 2 ^ w ≡ 2 ^ k
one_shifted w k l = rw (one-mul (2 ^ k)) (mod-eq_of_lt (pow-lt l))

digit-power-other : (k j : ℕ) → (j ≡ k → ⊥) → digit (2 ^ k) j ≡ 0
unfolding digit
digit-power-other zero zero d = absurd (d refl)
digit-power-other zero (suc j) d = digit-of-0 j
digit-power-other (suc k) zero d = omega arith
digit-power-other (suc k) (suc j) d =
    let half : 2 ^ suc k / 2 ≡ 2 ^ k = omega arith in
    ap (λ (x : ℕ). digit x j) half ∙ digit-power-other k j (λ e. d (ap suc e))

-- the digits turned over
pub digit-complement : (w x j : ℕ) → x < 2 ^ w → j < w → digit (2 ^ w - 1 - x) j ≡ 1 - digit x j
unfolding digit
digit-complement zero x j f l = absurd (omega arith)
digit-complement (suc w) x zero f l = omega (arith, pow_pos w)
digit-complement (suc w) x (suc j) f l =
    let half : (2 ^ suc w - 1 - x) / 2 ≡ 2 ^ w - 1 - x / 2 = omega (arith, pow_pos w) in
    ap (λ (y : ℕ). digit y j) half ∙ digit-complement w (x / 2) j (omega arith) (omega arith)

pub digit-of-ones : (w j : ℕ) → j < w → digit (2 ^ w - 1) j ≡ 1
digit-of-ones w j l =
    let e : 2 ^ w - 1 - 0 ≡ 2 ^ w - 1 = omega arith in
    let turned : digit (2 ^ w - 1) j ≡ 1 - digit 0 j = rw e at (digit-complement w 0 j (pow_pos w) l) in
    omega (arith, turned, digit-of-0 j)

-- digit k set
pub digit_set : (x k j : ℕ) → digit (bit_or x (2 ^ k)) j ≡ 1 → (digit x j ≡ 1) ⊎ (j ≡ k)
digit_set x k j e = ⊎_elim
    inr
    (λ d. inl (omega (arith, e, digit_or x (2 ^ k) j, digit-power-other k j d)))
    (eq-or-ne j k)

-- digit k cleared
pub digit-cleared : (w x k j : ℕ) → k < w → j < w → digit (bit_and x (2 ^ w - 1 - 2 ^ k)) j ≡ 1 → (digit x j ≡ 1) × (j ≡ k → ⊥)
digit-cleared w x k j kw jw e = (omega (arith, e, both, digit-le x j), λ q. omega (arith, e, both, turned, ap (digit (2 ^ k)) q, digit-power k))
  where
    both : digit (bit_and x (2 ^ w - 1 - 2 ^ k)) j ≡ min (digit x j) (digit (2 ^ w - 1 - 2 ^ k) j)
    both = digit_and x (2 ^ w - 1 - 2 ^ k) j

    turned : digit (2 ^ w - 1 - 2 ^ k) j ≡ 1 - digit (2 ^ k) j
    turned = digit-complement w (2 ^ k) j (pow-lt kw) jw

-- what is counted below a digit says that the digit is not set
under_none : (d t k : ℕ) → k < under d t → (d ≡ 0) × (k ≤ t)
under_none zero t k l = (refl, omega arith)
under_none (suc d) t k l = absurd (omega arith)

-- no digit below the lowest set one is set
pub digit-trailing : (w y k : ℕ) → k < count_trailing_zeros w y → digit y k ≡ 0
unfolding digit count_trailing_zeros
digit-trailing zero y k l = absurd (omega arith)
digit-trailing (suc w) y zero l = (under_none (y % 2) (count_trailing_zeros w (y / 2)) 0 l).0
digit-trailing (suc w) y (suc k) l = digit-trailing w (y / 2) k (under_none (y % 2) (count_trailing_zeros w (y / 2)) (suc k) l).1
