-- `Outlines::head_not_tail` meets its contract: the two edges that it reads are those that the definition names.
use mathlib.Core.Path.{ap}
use mathlib.Core.Bool.{not}
use Rattle.cutter.specs.Outlines.{head_not_tail}
use Rattle.cutter.proofs.outlines.Outlines.head_not_tail.Goals as goal

pub returns : goal.returns
unfolding head_not_tail
returns c = rw (← c.next_at-next.ensures.0, ← c.at-edge.ensures, ← c.at-follower.ensures) (ap not c.same.ensures)
