-- How records lie in a slice of signed numbers, record k in the four from 4 k on: level, name, row (below 0 for a closing edge), offset.
-- A level, name or row that needs more than 31 bits is written as the largest number of 31 bits, so that every record can be written; the offset
-- is signed already and stands as it is.
use Rattle.std.specs.Prelude.{ℕ, ◌+◌, ◌*◌, ◌/◌, ◌≤◌, ◌<◌, min, List, [], ◌∷◌, ℤ, pos, negsuc, length, get_or, Option, Some, None}
use Rattle.std.proofs.lemmas.List.Edits.{sets}
use Rattle.steps.specs.SweepDown.{natural_part}
use Rattle.steps.specs.Rows.{Chain, in_row, closing, Record, Journal}
use Rattle.steps.specs.Swept.{numbers_per_record}

-- how many records a slice has room for, and that it has room for record k
abbrev pub records_in : List ℤ → ℕ
records_in s = length s / numbers_per_record

abbrev pub HasRecord : List ℤ → ℕ → Type 0
HasRecord s k = numbers_per_record * k + numbers_per_record ≤ length s

-- a number of 31 bits as it is
abbrev pub fitting : ℕ → ℕ
fitting n = min n 2147483647

unfoldable pub chain_in : ℤ → Chain
chain_in (pos r) = in_row r
chain_in (negsuc n) = closing

unfoldable pub row_number : Chain → ℤ
row_number (in_row r) = pos (fitting r)
row_number closing = negsuc 0

-- a chain as the code answers it, the row or none, and that the row's name has 31 bits
abbrev pub chain_of : Option ℕ → Chain
chain_of (Some r) = in_row r
chain_of None = closing

abbrev pub Short : Option ℕ → Type 0
Short (Some r) = r < 2147483648
Short None = Unit

unfoldable pub record_at : List ℤ → ℕ → Record
record_at s k =
    record {
      level = natural_part (get_or s (numbers_per_record * k) (pos 0));
      name = natural_part (get_or s (numbers_per_record * k + 1) (pos 0));
      chain = chain_in (get_or s (numbers_per_record * k + 2) (pos 0));
      offset = get_or s (numbers_per_record * k + 3) (pos 0);
    }

unfoldable pub written_in : List ℤ → ℕ → Record → List ℤ
written_in s k e = sets s (numbers_per_record * k) (pos (fitting e.level) ∷ pos (fitting e.name) ∷ row_number e.chain ∷ e.offset ∷ [])

unfoldable pub record_slice : Journal (List ℤ)
record_slice = record { read = record_at; written = written_in }
