-- Rows in use, noted as bits beside the rows, which spare the search for the lowest free row. The notes lie in a slice of counts. Number 0 is not of
-- this crate, number 1 is the peak, number 2 is the first word that is worth a look, and from number 3 on stand the words, of 64 bits each: bit q % 64 of
-- word q / 64 is row q's. A bit that is set says that the row is in use; one that is not says nothing, and so the search looks at the row.
use Rattle.std.specs.Prelude.{ℕ, ◌+◌, ◌-◌, ◌*◌, ◌/◌, ◌%◌, ◌^◌, ◌≤◌, ◌<◌, min, ◌≡◌, Bool, true, List, eqb, ℤ, get_or, set}
use Rattle.std.specs.Int.Bits.{bit_and, bit_or}
use Rattle.laws.specs.Digits.{digit}
use Rattle.rows.specs.Layout.{look_row}

-- how far rows were ever opened
abbrev pub peak_in : List ℕ → ℕ
peak_in counts = get_or counts 1 0

-- the first word that is worth a look
abbrev pub low_in : List ℕ → ℕ
low_in counts = get_or counts 2 0

-- where the word with row q's bit stands
abbrev pub word_at : ℕ → ℕ
word_at q = 3 + q / 64

-- row q's bit is set
unfoldable pub noted : List ℕ → ℕ → Bool
noted counts q = eqb (digit (get_or counts (word_at q) 0) (q % 64)) 1

-- every row from the first word worth a look up to row f is noted
abbrev pub NotedTo : List ℕ → ℕ → Type 0
NotedTo counts f = (q : ℕ) → q < f → 64 * low_in counts ≤ q → noted counts q ≡ true

-- what is noted is so: a row before the first word worth a look is in use, and so is one whose bit is set
pub record InUse (counts : List ℕ) (rows : List ℤ) : Type 0 where
  pub below : (q : ℕ) → q < 64 * low_in counts → (look_row rows q).used ≡ true
  pub noted_used : (q : ℕ) → noted counts q ≡ true → (look_row rows q).used ≡ true

-- row r noted, and the words before its own are full: it was the lowest free row. A word past the slice is not written
unfoldable pub taken_in : List ℕ → ℕ → List ℕ
taken_in counts r = set (set counts 2 (r / 64)) (word_at r) (bit_or (get_or counts (word_at r) 0) (2 ^ (r % 64)))

-- row r no longer noted, and its word worth a look
unfoldable pub given_back_in : List ℕ → ℕ → List ℕ
given_back_in counts r = set (set counts 2 (min (low_in counts) (r / 64))) (word_at r) (bit_and (get_or counts (word_at r) 0) (2 ^ 64 - 1 - 2 ^ (r % 64)))
