-- `Edge::top` meets its contract: of two points the greater one is the higher.
use mathlib.Core.Path.{◌∙◌}
use Rattle.sheet.specs.Points.{is_up, top_of}
use Rattle.sheet.proofs.Comparing.{max-higher}
use Rattle.sheet.proofs.Edge.top.Goals as goal

pub returns : goal.returns
unfolding top_of is_up
returns c = c.max.ensures ∙ max-higher c.args.self.tail c.args.self.head
