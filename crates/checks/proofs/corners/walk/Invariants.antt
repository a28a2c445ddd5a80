-- `checks::corners::walk` meets its contract. The loop's invariant: what is to be found and marked at the ends before the next place is.
use mathlib.Core.Path.{◌≡◌}
use Rattle.sheet.specs.Edges.{edges_in}
use Rattle.checks.specs.Corners.{CornersSoFar}
use Rattle.checks.proofs.corners.walk.Given as goal

abbrev pub invariant-loop-from : goal.invariant-loop-from
invariant-loop-from l = (l.from-iterator.words.now ≡ l.words) × CornersSoFar l.edges l.words (edges_in l.edges) l.from-iterator.from l.found l.apart
