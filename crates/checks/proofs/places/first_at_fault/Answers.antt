-- `checks::places::first_at_fault` meets its contract: the ends are put in order, and the walk finds the least edges.
use mathlib.Core.Path.{subst}
use Prim.Native.Nat.{ℕ}
use Rattle.sheet.specs.Edges.{edges_in}
use Rattle.checks.specs.Places.{FoundSoFar}
use Rattle.checks.proofs.ByWords.{found_first}
use Rattle.checks.proofs.places.first_at_fault.Goals as goal

pub order-requires : goal.order-requires
unfolding edges_in
order-requires c = c.requires

pub returns-clause-value : goal.returns-clause-value
unfolding edges_in
returns-clause-value c = found_first c.requires.0 c.order.ensures.0 (subst (λ (m : ℕ). FoundSoFar c.order.new.words m m c.walk.result) c.order.ensures.1 c.walk.ensures)
