-- `finding::index::is_live` meets its contract. Past the slice no row is in use.
use Rattle.std.proofs.Common.{arith}
use Rattle.std.proofs.lemmas.Grind.{common_steps}
use Rattle.rows.proofs.Searching.{past-free}
use Rattle.finding.specs.Index.{live, live_in}
use Rattle.finding.proofs.index.is_live.Goals as goal

pub returns-then-not-is_finished : goal.returns-then-not-is_finished
unfolding live live_in
returns-then-not-is_finished c = grind (arith, common_steps)

pub returns-else-not-is_finished : goal.returns-else-not-is_finished
unfolding live live_in
returns-else-not-is_finished c = grind (arith, common_steps, past-free)
