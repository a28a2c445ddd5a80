-- Where an instruction stands in the whole list, told by the positions of the turn list.
use Rattle.std.specs.Prelude.{ℕ, ◌+◌, ◌-◌, ◌*◌, Bool, true, cond, List, eqb, ltb, length, get_or}
use Rattle.sheet.specs.declared.Edge.{Edge}
use Rattle.cutter.specs.declared.machines.Machine.{Machine}
use Rattle.cutter.specs.declared.blade.Instruction.{Instruction}
use Rattle.cutter.specs.declared.blade.Instruction.TheVariants.{Lift}
use Rattle.cutter.specs.Places.{place_for}
use Rattle.cutter.specs.Blade.{travel_to, cut_to}

-- the instructions up to the cut of the edge at position i: a cut for each position so far, a travel for each polygon begun, a lift for each one ended
unfoldable pub up_to_cut : List ℕ → List ℕ → ℕ → ℕ
up_to_cut polygons turns i = i + 2 * get_or polygons (get_or turns i 0) 0

-- 18: behind the last cut comes one lift and nothing more
unfoldable pub past_last : List ℕ → List ℕ → ℕ → Bool
past_last polygons turns k = cond (eqb (length turns) 0) true (ltb (up_to_cut polygons turns (length turns - 1)) k)

-- the last one up to an edge's cut, the one before it, the one before that
unfoldable pub before_end : Machine → Edge → ℕ → Instruction
before_end m edge back = cond (eqb back 1) (cut_to (place_for m edge.head)) (cond (eqb back 2) (travel_to (place_for m edge.tail)) Lift)
