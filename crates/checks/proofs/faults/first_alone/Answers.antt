-- `checks::faults::first_alone` meets its contract: the closure asks the test of the answer sheet.
use borrow.Author.Rules.{rules}
use Rattle.laws.proofs.Found.{first-found}
use Rattle.sheet.specs.Edges.{edges_in}
use Rattle.checks.specs.Stages.{edge_fault_alone}
use Rattle.checks.proofs.EdgeFaults.{alone-told}
use Rattle.checks.proofs.faults.first_alone.Goals as goal

pub returns : goal.returns
unfolding edges_in
returns c = first-found (edge_fault_alone c.args.edges.now) (edges_in c.args.edges.now) _ _ _ c.find.ensures.ran (λ k b q l. (search rules, search (rules, alone-told)))
