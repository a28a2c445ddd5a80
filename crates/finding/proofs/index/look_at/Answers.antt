-- `finding::index::look_at` meets its contract. Past the slice no row has the tip.
use Rattle.std.proofs.Common.{arith}
use Rattle.std.proofs.lemmas.Grind.{common_steps}
use Rattle.rows.proofs.Searching.{past-no-tip}
use Rattle.finding.specs.Index.{look_at}
use Rattle.finding.proofs.index.look_at.Goals as goal

pub returns : goal.returns
unfolding look_at
returns c = let a = c.args in let p = past-no-tip a.rows.now a.level a.side a.tip a.r in grind (arith, common_steps)
