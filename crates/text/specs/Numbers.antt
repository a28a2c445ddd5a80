-- A number in a text: an optional minus, then all the digits that stand there, 1 to 7 of them, with no zero in front of other digits and no minus in
-- front of zero. A text is the list of its bytes. Each definition is a test or a function that computes, and the answers of the cursor's reading methods are
-- proved to say it. "01 Program 2" in a comment names the second sentence under "The program and the host".
use Rattle.std.specs.Prelude.{◌≡◌, ℕ, zero, suc, ◌+◌, ◌-◌, ◌*◌, ◌<◌, Bool, true, cond, not, ◌&&◌, List, eqb, ltb, leb, ℤ, pos, neg_ℤ, get_or, length}
use Rattle.laws.specs.Counting.{first}
use Rattle.text.specs.Said.{Said, read, refused, malformed}

-- the byte at a place; past the end none stands, which is written 256
unfoldable pub byte_at : List ℕ → ℕ → ℕ
byte_at s i = get_or s i 256

-- the bytes of the digits 0 to 9
unfoldable pub is_digit : ℕ → Bool
is_digit b = leb 48 b && ltb b 58

-- a minus stands at i
unfoldable pub minus_at : List ℕ → ℕ → Bool
minus_at s i = eqb (byte_at s i) 45

-- where the digits of a number at i begin
unfoldable pub digits_at : List ℕ → ℕ → ℕ
digits_at s i = cond (minus_at s i) (i + 1) i

-- how many digits stand from i on, up to the first byte that is none; 8 where there are more than 7
unfoldable pub digits_from : List ℕ → ℕ → ℕ
digits_from s i = first (λ k. not (is_digit (byte_at s (i + k)))) 8

-- bytes that are all digits
abbrev pub AllDigits : List ℕ → Type 0
AllDigits w = (k : ℕ) → k < length w → is_digit (byte_at w k) ≡ true

-- the digits that stand from i on, up to 8 of them
pub record Digits (s : List ℕ) (i : ℕ) (w : List ℕ) : Type 0 where
  pub count : length w ≡ digits_from s i
  pub bytes : (k : ℕ) → k < length w → byte_at w k ≡ byte_at s (i + k)

-- the number that d digits from i on write in decimal
unfoldable pub value_at : List ℕ → ℕ → ℕ → ℕ
value_at s i zero = 0
value_at s i (suc d) = 10 * value_at s i d + (byte_at s (i + d) - 48)

-- more than one digit, the first a zero
unfoldable pub leading_zero : ℕ → ℕ → Bool
leading_zero lead d = eqb lead 48 && ltb 1 d

-- a minus and then a zero
unfoldable pub minus_zero : Bool → ℕ → Bool
minus_zero minus lead = eqb lead 48 && minus

-- 01 Program 2: d digits, the first of them lead, write a number
unfoldable pub is_numeral : Bool → ℕ → ℕ → Bool
is_numeral minus lead d = leb 1 d && (leb d 7 && (not (leading_zero lead d) && not (minus_zero minus lead)))

unfoldable pub with_sign : Bool → ℕ → ℤ
with_sign minus n = cond minus (neg_ℤ (pos n)) (pos n)

-- the number whose d digits begin at a, and the place after it
unfoldable pub numeral_at : List ℕ → Bool → ℕ → ℕ → Said ℤ
numeral_at s minus a d =
    cond (is_numeral minus (byte_at s a) d) (read (with_sign minus (value_at s a d)) (a + d)) (refused malformed)

-- the number at i: it goes as far as digits stand
unfoldable pub number_at : List ℕ → ℕ → Said ℤ
number_at s i = numeral_at s (minus_at s i) (digits_at s i) (digits_from s (digits_at s i))
