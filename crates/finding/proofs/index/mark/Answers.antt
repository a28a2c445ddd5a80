-- `finding::index::mark` meets its contract. By whether the index has the slot.
use Rattle.std.proofs.Common.{arith}
use Rattle.std.proofs.lemmas.Grind.{common_steps}
use lib.Seq.{set_out}
use Rattle.finding.specs.Index.{marked_in}
use Rattle.finding.proofs.index.mark.Goals as goal

pub returns-after-is_crowded : goal.returns-after-is_crowded
unfolding marked_in
returns-after-is_crowded c = grind (arith, common_steps)

pub returns-else-i-index : goal.returns-else-i-index
unfolding marked_in
returns-else-i-index c = grind (arith, common_steps, set_out)
