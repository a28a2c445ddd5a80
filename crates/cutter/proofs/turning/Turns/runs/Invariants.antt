-- `Turns::runs` meets its contract. The loop's invariant: the numbers run along the positions so far, and the pair that is carried along is that of the
-- edge before.
use Rattle.sheet.specs.TurnList.{number_lists}
use Rattle.cutter.specs.Runs.{RunsTo}
use Rattle.cutter.proofs.Running.{Carried}
use Rattle.cutter.proofs.turning.Turns.runs.Given as goal

abbrev pub invariant-loop-turn : goal.invariant-loop-turn
invariant-loop-turn l =
    let v = number_lists l.self.polygons.now l.self.sequences.now in
    Carried v l.self.turns.now l.turn-index l.polygon l.sequence × RunsTo v l.self.turns.now l.turn-index
