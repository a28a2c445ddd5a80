-- `between_limits` meets its contract: the range holds both limits.
use mathlib.Core.Path.{◌∙◌}
use lib.IntN.{pos, negsuc}
use Rattle.sheet.specs.Points.{within}
use Rattle.sheet.proofs.Signed.{read_back}
use Rattle.sheet.proofs.Comparing.{le-int}
use Rattle.sheet.proofs.between_limits.Goals as goal

pub returns : goal.returns
unfolding within
returns c = c.contains.ensures.value ∙ rw (
  c.new.ensures.start,
  c.new.ensures.end,
  c.new.ensures.exhausted,
  read_back c.args.c c.ranges.c.sfits,
  le-int (negsuc 999999) c.args.c,
  le-int c.args.c (pos 1000000),
)
