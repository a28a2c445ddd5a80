-- `checks::places::passed_through` meets its contract.
use borrow.Author.Tests.{eq-eqb, ne_eqb}
use Rattle.checks.specs.Places.{passed_through}
use Rattle.checks.proofs.places.passed_through.Goals as goal

pub returns-then-to-from-eq2 : goal.returns-then-to-from-eq2
unfolding passed_through
returns-then-to-from-eq2 c = rw (eq-eqb _ _ c.if-to-from-eq2.true, c.arrival_of.ensures, c.arrival_of-then-to-from-eq2.ensures)

pub returns-else-to-from-eq2 : goal.returns-else-to-from-eq2
unfolding passed_through
returns-else-to-from-eq2 c = rw (ne_eqb _ _ c.if-to-from-eq2.false)
