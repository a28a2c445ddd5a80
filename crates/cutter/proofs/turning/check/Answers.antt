-- `turning::check` meets its contract: each way out is a law of what is tried.
use Rattle.cutter.proofs.TurnsTried.{on-polygons, on-sequences, on-turns, on-run}
use Rattle.cutter.proofs.turning.check.Goals as goal
use Rattle.cutter.proofs.turning.check.Goals.{then-polygons-n-via-then-polygons-n, then-polygons-n-via-else-polygons-n+then-sequences-n, then-polygons-n-via-else-polygons-n+else-sequences-n+then-turns-n}

pub returns-then-polygons-n : goal.returns-then-polygons-n
returns-then-polygons-n c = elim c.then-polygons-n.branch [
  | then-polygons-n-via-then-polygons-n w ↦ on-polygons _ _ _ _ w.if-polygons-n.true
  | then-polygons-n-via-else-polygons-n+then-sequences-n w ↦ on-sequences _ _ _ _ w.if-polygons-n.false w.if-sequences-n.true
  | then-polygons-n-via-else-polygons-n+else-sequences-n+then-turns-n w ↦ on-turns _ _ _ _ w.if-polygons-n.false w.if-sequences-n.false w.if-turns-n.true
]

pub returns-then-runs : goal.returns-then-runs
returns-then-runs c = on-run _ _ _ _ c.if-polygons-n.false c.if-sequences-n.false c.if-turns-n.false c.requires (c.runs.ensures.0 c.if-runs.true)
