-- `finding::index::tip_at` meets its contract. Each side has its own number.
use native.Mathlib.Omega.{arith}
use Rattle.finding.specs.Index.{tip_at}
use Rattle.finding.proofs.index.tip_at.Goals as goal

pub returns-in-Rising : goal.returns-in-Rising
unfolding tip_at
returns-in-Rising c = rw c.in-Rising.is (omega arith)

pub returns-in-Falling : goal.returns-in-Falling
unfolding tip_at
returns-in-Falling c = rw c.in-Falling.is (omega arith)
