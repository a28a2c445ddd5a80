-- `finding::index::owner` meets its contract. By whether the index is long enough.
use Rattle.std.proofs.Common.{arith}
use Rattle.std.proofs.lemmas.Grind.{common_steps}
use Rattle.finding.specs.Index.{owner_in}
use Rattle.finding.proofs.index.owner.Goals as goal

pub returns-then-peak-index : goal.returns-then-peak-index
unfolding owner_in
returns-then-peak-index c = grind (arith, common_steps)

pub returns-else-i-index : goal.returns-else-i-index
unfolding owner_in
returns-else-i-index c = grind (arith, common_steps)
