-- `checks::corners::turn` meets its contract: the second edge leaves from the head of the first.
use Rattle.sheet.specs.Edges.{drawing_of}
use Rattle.ends.proofs.Fitting.{tail-in, head_in}
use Rattle.checks.proofs.AtCorners.{leaves_at_lem, turn-kept}
use Rattle.checks.proofs.corners.turn.Goals as goal

pub turn-requires : goal.turn-requires
turn-requires c = rw (c.at-came.ensures, c.at-goes.ensures) (head_in c.requires.list.0 _ c.requires.list.1, tail-in c.requires.list.0 _ c.requires.list.1, head_in c.requires.list.0 _ c.requires.list.2)

pub returns : goal.returns
unfolding drawing_of
returns c = let at = leaves_at_lem c.requires.list.0 c.requires.list.1 c.requires.list.2 c.requires.meet in
    rw (c.turn.ensures, c.at-came.ensures, c.at-goes.ensures, at) (rw at at (turn-kept c.requires.list.0 c.requires.list.1 c.requires.list.2 c.requires.meet))
