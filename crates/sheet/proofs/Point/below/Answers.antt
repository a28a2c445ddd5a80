-- `Point::below` meets its contract: the derived order is by y and then by x.
use mathlib.Core.Path.{◌∙◌}
use Rattle.sheet.proofs.Comparing.{partial-below}
use Rattle.sheet.proofs.Point.below.Goals as goal

pub returns : goal.returns
returns c = c.lt.ensures ∙ partial-below c.args.self c.args.other
