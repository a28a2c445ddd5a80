-- `Edge::bottom` meets its contract: of two points the lesser one is the lower.
use mathlib.Core.Path.{◌∙◌}
use Rattle.sheet.specs.Points.{is_up, bottom_of}
use Rattle.sheet.proofs.Comparing.{min-lower}
use Rattle.sheet.proofs.Edge.bottom.Goals as goal

pub returns : goal.returns
unfolding bottom_of is_up
returns c = c.min.ensures ∙ min-lower c.args.self.tail c.args.self.head
