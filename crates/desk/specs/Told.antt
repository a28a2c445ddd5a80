-- An instruction as plain numbers: 0 travel, 1 cut, 2 lift, and two numbers in millimetres; and what the two calls that give one promise.
use Rattle.std.specs.Prelude.{ℕ, ◌+◌, ◌*◌, ◌≡◌, false, cond, List, ltb, Float, ℤ, pos, length, Result, Ok, Err}
use Rattle.std.specs.Float.{fin}
use Rattle.numbering.specs.Outcome.{Lent, Left}
use Rattle.cutter.specs.declared.machines.Machine.{Machine}
use Rattle.cutter.specs.declared.blade.Instruction.{Instruction}
use Rattle.cutter.specs.declared.blade.Instruction.TheVariants.{Travel, Cut, Lift}
use Rattle.cutter.specs.declared.CutRefusal.{CutRefusal}
use Rattle.cutter.specs.Instructed.{cut_number_of, cut_place_of, Instructs}
use Rattle.desk.specs.declared.Sheet.{Sheet}
use Rattle.desk.specs.declared.Cut as desk
use Rattle.desk.specs.Exported.{Exports}

abbrev pub plus_zero : Float
plus_zero = fin false 0 (pos 0)

abbrev pub instruction_told : Instruction → desk.Cut
instruction_told (Travel p) = record { refusal = 0; place = 0; what = 0; x = p.first; y = p.second }
instruction_told (Cut p) = record { refusal = 0; place = 0; what = 1; x = p.first; y = p.second }
instruction_told Lift = record { refusal = 0; place = 0; what = 2; x = plus_zero; y = plus_zero }

abbrev pub cut_from : Result Instruction CutRefusal → desk.Cut
cut_from (Ok i) = instruction_told i
cut_from (Err r) = record { refusal = cut_number_of r; place = cut_place_of r; what = 0; x = plus_zero; y = plus_zero }

-- a call for the k-th instruction and its exported answer: what is promised of the instruction (crates/cutter), by its numbers
pub record Told (m : Machine) (list : List ℤ) (polygons sequences turns : List ℕ) (k : ℕ) (r : desk.Cut) : Type 0 where
  pub inner : Result Instruction CutRefusal
  pub promised : Instructs m list polygons sequences turns k inner
  pub same : r ≡ cut_from inner
  -- no refusal has the number 0
  pub accepted : r.refusal ≡ 0 → (i : Instruction) × (inner ≡ Ok i)
  -- For the three lists that a sheet's call left, having accepted it, there is no refusal but 18: two instructions for each polygon and one for each edge
  -- are given, and no more.
  pub from_assembly : (l : Lent) (before : List ℕ) (y : Left Sheet) → Exports l before y turns → y.answer.refusal ≡ 0 → l.list ≡ list → y.polygons ≡ polygons → y.sequences ≡ sequences
      → r.refusal ≡ cond (ltb k (length turns + 2 * y.answer.polygons)) 0 18
