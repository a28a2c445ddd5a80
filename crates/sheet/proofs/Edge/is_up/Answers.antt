-- `Edge::is_up` meets its contract: it is what `below` says of tail and head.
use Rattle.sheet.specs.Points.{is_up}
use Rattle.sheet.proofs.Edge.is_up.Goals as goal

pub returns : goal.returns
unfolding is_up
returns c = c.below.ensures
