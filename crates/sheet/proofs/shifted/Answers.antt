-- `shifted` meets its contract, by the laws of Shifting.
use mathlib.Core.Path.{◌∙◌}
use Rattle.sheet.proofs.Shifting.{taken}
use Rattle.sheet.proofs.shifted.Goals as goal

pub returns : goal.returns
returns c = c.abs_diff.ensures ∙ taken c.args.c c.ranges.c c.max.ensures.value c.max.type_inv
