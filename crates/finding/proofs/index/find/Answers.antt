-- `finding::index::find` meets its contract. By what the slot tells.
use Rattle.finding.proofs.Owners.{told_is}
use Rattle.finding.proofs.index.find.Goals as goal

pub returns-in-Nobody : goal.returns-in-Nobody
returns-in-Nobody c = rw (told_is, ← c.in-Nobody.ensures)

pub returns-in-Row : goal.returns-in-Row
returns-in-Row c = rw (told_is, ← c.in-Row.ensures) c.look_at.ensures

pub returns-in-Crowded : goal.returns-in-Crowded
returns-in-Crowded c = rw (told_is, ← c.in-Crowded.ensures) c.scan.ensures
