-- `finding::index::is_crowded` meets its contract. By what the slot tells.
use Rattle.std.proofs.Common.{arith}
use Rattle.std.proofs.lemmas.Grind.{common_steps}
use Rattle.finding.proofs.Owners.{crowds_is}
use Rattle.finding.proofs.index.is_crowded.Goals as goal

pub returns-in-Nobody : goal.returns-in-Nobody
returns-in-Nobody c = rw (crowds_is, ← c.in-Nobody.ensures)

pub returns-then-q-r : goal.returns-then-q-r
returns-then-q-r c = rw (crowds_is, ← c.in-Row.ensures) (grind (arith, common_steps))

pub returns-else-q-r : goal.returns-else-q-r
returns-else-q-r c = rw (crowds_is, ← c.in-Row.ensures) (grind (arith, common_steps))

pub returns-in-Crowded : goal.returns-in-Crowded
returns-in-Crowded c = rw (crowds_is, ← c.in-Crowded.ensures)
