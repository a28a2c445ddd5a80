-- `checks::faults::first_fault` meets its contract. The loop's invariant: no edge below e has a fault, and the rank that is carried along is that of the top
-- before e.
use mathlib.Core.Path.{◌≡◌}
use Rattle.laws.proofs.Searching.{NoneBelow}
use Rattle.sheet.specs.Answers.{edge_fault}
use Rattle.checks.specs.Faults.{top_before}
use Rattle.checks.proofs.faults.first_fault.Given as goal

abbrev pub invariant-loop-e : goal.invariant-loop-e
invariant-loop-e l = (l.last ≡ top_before l.edges l.e) × NoneBelow (edge_fault l.edges) l.e
