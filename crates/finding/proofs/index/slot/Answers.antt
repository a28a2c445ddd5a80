-- `finding::index::slot` meets its contract. Each side has its own slot.
use native.Mathlib.Omega.{arith}
use Rattle.finding.specs.Index.{slot_of}
use Rattle.finding.proofs.index.slot.Goals as goal

pub returns-in-Rising : goal.returns-in-Rising
unfolding slot_of
returns-in-Rising c = rw c.in-Rising.is (omega (arith, c.upper.ensures))

pub returns-in-Falling : goal.returns-in-Falling
unfolding slot_of
returns-in-Falling c = rw c.in-Falling.is (omega (arith, c.upper.ensures))
