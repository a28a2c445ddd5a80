-- The answers as plain numbers: for each case of the inner answers the paper's number, place and values.
use Rattle.std.specs.Prelude.{ℕ, ◌≡◌, List, ◌↔◌, length, Result, Ok, Err}
use Rattle.sheet.specs.Answers.{number_of, place_of}
use Rattle.sheet.specs.TurnList.{turn_number_of, turn_place_of, turned, GoodLists, TurnsAfter}
use Rattle.numbering.specs.Outcome.{Lent, Left, left_as}
use Rattle.assembly.specs.Assembled.{Assembled}
use Rattle.desk.specs.declared.Sheet.{Sheet}
use Rattle.desk.specs.declared.Turned.{Turned}
use Rattle.sheet.specs.declared.Numbered.{Numbered}
use Rattle.sheet.specs.declared.Refusal.{Refusal}
use Rattle.sheet.specs.declared.TurnRefusal.{TurnRefusal}
use Rattle.sheet.specs.Answers.{accepted}

abbrev pub sheet_from : Result Numbered Refusal → Sheet
sheet_from (Ok n) = record { refusal = 0; place = 0; polygons = n.polygons; peak = n.peak; records = n.records }
sheet_from (Err r) = record { refusal = number_of r; place = place_of r; polygons = 0; peak = 0; records = 0 }

abbrev pub turned_from : Result ℕ TurnRefusal → Turned
turned_from (Ok polygons) = record { refusal = 0; place = 0; polygons = polygons }
turned_from (Err r) = record { refusal = turn_number_of r; place = turn_place_of r; polygons = 0 }

abbrev pub by_numbers : Left (Result Numbered Refusal) → Left Sheet
by_numbers x = left_as (sheet_from x.answer) x.polygons x.sequences x.journal x.rows

-- a call's exported answer, with the turn list before and after it: what is promised of the call (crates/assembly), by its numbers
pub record Exports (l : Lent) (before : List ℕ) (y : Left Sheet) (after : List ℕ) : Type 0 where
  pub inner : Left (Result Numbered Refusal)
  pub promised : Assembled l before inner after
  pub same : y ≡ by_numbers inner
  -- no refusal has the number 0
  pub accepted : y.answer.refusal ≡ 0 → (peak : ℕ) × (records : ℕ) × (inner.answer ≡ accepted y.answer.polygons peak records)

-- the turn list as it is left, and the answer by its numbers
pub record ReadTurns (polygons sequences before after : List ℕ) (r : Turned) : Type 0 where
  pub answer : r ≡ turned_from (turned polygons sequences (length before))
  -- 01: refusal 0 is given exactly to the numberings without gap or repeat, with their number of polygons
  pub exactly : (n : ℕ) → ((r.refusal ≡ 0) × (r.polygons ≡ n)) ↔ GoodLists polygons sequences (length before) n
  pub turns : TurnsAfter polygons sequences (turned polygons sequences (length before)) before after
