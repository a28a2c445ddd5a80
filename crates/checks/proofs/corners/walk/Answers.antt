-- `checks::corners::walk` meets its contract.
use mathlib.Core.Path.{refl}
use Rattle.checks.proofs.CornersMarked.{none_so_far}
use Rattle.checks.proofs.corners.walk.Goals as goal

pub loop-from-init : goal.loop-from-init
loop-from-init c = rw (c.into_iter-from-iterator.ensures.into_iter_gives, c.requires.marks) (refl, none_so_far c.requires.list.0)
