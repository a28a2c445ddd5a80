-- What a call of the numbering promises: the outcome to the last number, and of it demands 2 and 3.
use Rattle.std.specs.Prelude.{ℕ, ◌+◌, ◌-◌, ◌*◌, ◌≤◌, ◌<◌, ◌≡◌, List, ℤ, get_or, Ok, Result, Err}
use Rattle.sheet.specs.declared.Refusal.TheVariants.{NoRow}
use Rattle.sheet.specs.Edges.{edges_in, drawing_of}
use Rattle.sheet.specs.Numbering.{Numbering}
use Rattle.sheet.specs.Passing.{Enough}
use Rattle.sheet.specs.Answers.{checked, zeros}
use Rattle.steps.specs.Swept.{rows_in, LacksRow, LacksItself}
use Rattle.numbering.specs.Outcome.{Lent, Left, call_of, outcome, left_as}
use Rattle.sheet.specs.declared.Numbered.{Numbered}
use Rattle.sheet.specs.declared.Refusal.{Refusal}
use Rattle.sheet.specs.Answers.{accepted}

-- the same call with another row table
abbrev pub with_other_rows : Lent → List ℤ → Lent
with_other_rows l rows = record { list = l.list; polygons = l.polygons; sequences = l.sequences; turns = l.turns; journal = l.journal; rows = rows }

-- rows that are always enough for a list, with the numbering that they are counted by
pub record RowsEnough (l : Lent) : Type 0 where
  pub polygon : ℕ → ℕ
  pub sequence : ℕ → ℕ
  pub polygons : ℕ
  pub numbering : Numbering (drawing_of l.list) polygon sequence polygons
  pub rows : ℕ
  pub enough : Enough (drawing_of l.list) polygon rows

-- with M-103 fewer are enough: one row, and for each of so many levels all edges that pass any one place but two
abbrev pub fewer_rows : {l : Lent} → RowsEnough l → ℕ
fewer_rows E = 1 + E.enough.log * (E.enough.C - 2)

pub record Promised (l : Lent) (x : Left (Result Numbered Refusal)) : Type 0 where
  -- the answer and every number of every slice
  pub outcome_is : x ≡ outcome l
  -- demand 2: where it is accepted, the two lists are the numbering of the list
  pub numbered : (polygons peak records : ℕ) → x.answer ≡ accepted polygons peak records → Numbering (drawing_of l.list) (λ e. get_or x.polygons e 0) (λ e. get_or x.sequences e 0) polygons
  -- the records are at most twice the edges, less the polygons
  pub few_records : (polygons peak records : ℕ) → x.answer ≡ accepted polygons peak records → records + polygons ≤ 2 * edges_in l.list
  -- demand 3: for every list with an edge in which nothing else is at fault there are rows that are enough, and so many are always accepted
  pub enough_there : checked (call_of l) ≡ Ok tt → 0 < edges_in l.list → RowsEnough l
  pub enough_rows : checked (call_of l) ≡ Ok tt → (E : RowsEnough l) → E.rows ≤ rows_in l.rows → (polygons : ℕ) × (peak : ℕ) × (records : ℕ) × (x.answer ≡ accepted polygons peak records)
  -- .. and fewer already
  pub fewer_enough : checked (call_of l) ≡ Ok tt → (E : RowsEnough l) → fewer_rows E ≤ rows_in l.rows → (polygons : ℕ) × (peak : ℕ) × (records : ℕ) × (x.answer ≡ accepted polygons peak records)
  -- the peak is exact: with that many rows or more the same call gives the same answer, numbers and journal, with fewer it is refused
  pub peak_enough : (polygons peak records : ℕ) → x.answer ≡ accepted polygons peak records → (rows : List ℤ) → peak ≤ rows_in rows → outcome (with_other_rows l rows) ≡ left_as x.answer x.polygons x.sequences x.journal (zeros rows)
  pub fewer_refused : (polygons peak records : ℕ) → x.answer ≡ accepted polygons peak records → (rows : List ℤ) → rows_in rows < peak → (e : ℕ) × ((outcome (with_other_rows l rows)).answer ≡ Err (NoRow e))
  -- refusal 10 at an edge, exactly when step 1 finds no free row while that edge is treated
  pub lacks_row : (e : ℕ) → x.answer ≡ Err (NoRow e) → (checked (call_of l) ≡ Ok tt) × LacksRow (drawing_of l.list) (rows_in l.rows) e
  pub no_row : (e : ℕ) → checked (call_of l) ≡ Ok tt → LacksRow (drawing_of l.list) (rows_in l.rows) e → x.answer ≡ Err (NoRow e)
  -- .. and then it is an edge of the list itself that lacks the row
  pub lacks_itself : (e : ℕ) → x.answer ≡ Err (NoRow e) → LacksItself (drawing_of l.list) (rows_in l.rows) e
