-- `Point::same` meets its contract: points are compared by their coordinates.
use mathlib.Core.Path.{◌∙◌}
use Rattle.sheet.proofs.Comparing.{eq-same}
use Rattle.sheet.proofs.Point.same.Goals as goal

pub returns : goal.returns
returns c = c.eq.ensures ∙ eq-same c.args.self c.args.other
