-- What a whole call of the numbering answers and leaves in every lent slice (01, "The answer sheet"): the checks, then the two sweeps of crates/steps on
-- plain tables. How a row lies in its slice is no part of it.
use Rattle.std.specs.Prelude.{ℕ, List, ℤ, length, Result, ⊤, Ok, Err}
use Rattle.laws.specs.Listing.{listed, list_of}
use Rattle.sheet.specs.declared.Refusal.TheVariants.{NoRow}
use Rattle.sheet.specs.Edges.{edges_in, drawing_of}
use Rattle.sheet.specs.Answers.{Call, checked, answered, zeros, after_refusal, followed_by_zeros}
use Rattle.steps.specs.Rows.{Row, Record, record_numbers}
use Rattle.steps.specs.SweepUp.{Sweep}
use Rattle.steps.specs.SweepDown.{natural_part, Pair, Reading}
use Rattle.steps.specs.Swept.{rows_in, swept_to, read_down}
use Rattle.steps.specs.declared.Halt.{Halt}
use Rattle.sheet.specs.declared.Numbered.{Numbered}
use Rattle.sheet.specs.declared.Refusal.{Refusal}
use Rattle.sheet.specs.Answers.{accepted}

-- The five slices as they are lent. Of the turn list, which is filled from the numbers (crates/assembly), only the length matters here.
pub record Lent : Type 0 where
  pub list : List ℤ
  pub polygons : List ℕ
  pub sequences : List ℕ
  pub turns : ℕ
  pub journal : List ℤ
  pub rows : List ℤ

-- the answer, and the four slices that may change as they are left
pub record Left (A : Type 0) : Type 0 where
  pub answer : A
  pub polygons : List ℕ
  pub sequences : List ℕ
  pub journal : List ℤ
  pub rows : List ℤ

abbrev pub call_of : Lent → Call
call_of l = record { list = l.list; polygons = length l.polygons; sequences = length l.sequences; turns = l.turns; journal = length l.journal }

-- the list swept up with the rows lent, and its records read down
unfoldable pub up : Lent → Sweep (ℕ → Row ℕ) (ℕ → Record)
up l = swept_to (drawing_of l.list) (rows_in l.rows) (edges_in l.list)

unfoldable pub down : Lent → Reading (ℕ → Pair) (ℕ → Pair)
down l = read_down (up l).state.journal (up l).state.records

-- What the steps answer by their end. An overrun never comes where the checks are passed: `lacks_row` in Promised says that 10 is a missing row.
abbrev pub answer_by : Lent → Result ⊤ Halt → Result Numbered Refusal
answer_by l (Ok _) = accepted (down l).polygons (up l).state.peak (up l).state.records
answer_by l (Err _) = Err (NoRow (up l).edge)

-- what an answer leaves in the slices
abbrev pub leaves : Lent → Result Numbered Refusal → Left (Result Numbered Refusal)
leaves l (Err r) =
    record { answer = Err r; polygons = l.polygons; sequences = l.sequences; journal = after_refusal r l.journal; rows = after_refusal r l.rows }
leaves l (Ok n) =
    record {
      answer = Ok n;
      polygons = list_of (λ e. ((down l).answers e).polygon) (edges_in l.list);
      sequences = list_of (λ e. natural_part ((down l).answers e).sequence) (edges_in l.list);
      journal = followed_by_zeros (listed (λ k. record_numbers ((up l).state.journal k)) n.records) (length l.journal);
      rows = zeros l.rows;
    }

unfoldable pub outcome : Lent → Left (Result Numbered Refusal)
outcome l = leaves l (answered (checked (call_of l)) (answer_by l (up l).state.end))

-- the slices by name
abbrev pub lent : List ℤ → List ℕ → List ℕ → ℕ → List ℤ → List ℤ → Lent
lent list polygons sequences turns journal rows = record { list = list; polygons = polygons; sequences = sequences; turns = turns; journal = journal; rows = rows }

abbrev pub left_as : {A : Type 0} → A → List ℕ → List ℕ → List ℤ → List ℤ → Left A
left_as a polygons sequences journal rows = record { answer = a; polygons = polygons; sequences = sequences; journal = journal; rows = rows }
