-- The measures of the three functions that pass rows up, which call each other in a round: it falls with the levels left, and along the round within a level.
use Rattle.std.proofs.Common.{◌+◌, ◌*◌}
use Rattle.sweep.proofs.treating.Writer.+pass_both_pass_up_raise.Given as goal

abbrev pub decreases-pass_both : goal.decreases-pass_both
decreases-pass_both l = 3 * l.left + 2

abbrev pub decreases-pass_up : goal.decreases-pass_up
decreases-pass_up l = 3 * l.left + 1

abbrev pub decreases-raise : goal.decreases-raise
decreases-raise l = 3 * l.above
