-- `checks::faults::fault_of` meets its contract: the tests that led to each way out are the answer sheet's.
use Rattle.checks.proofs.EdgeFaults.{past-told, film-told, equal-told}
use Rattle.checks.proofs.faults.fault_of.Goals as goal

pub returns-in-true-default-default : goal.returns-in-true-default-default
returns-in-true-default-default c = let a = c.args in
    rw (past-told a.edges.now a.e c.at-edge.ensures c.in-true-default-default.ensures)

pub returns-in_default-true-default : goal.returns-in_default-true-default
returns-in_default-true-default c =
    let a = c.args in
    let f = c.in_default-true-default in
    rw (past-told a.edges.now a.e c.at-edge.ensures f.ensures, film-told a.edges.now a.e c.at-edge.ensures f.ensures')

pub returns-in_default-default-true : goal.returns-in_default-default-true
returns-in_default-default-true c =
    let a = c.args in
    let f = c.in_default-default-true in
    rw (past-told a.edges.now a.e c.at-edge.ensures f.ensures, film-told a.edges.now a.e c.at-edge.ensures f.ensures', equal-told a.edges.now a.e c.at-edge.ensures f.ensures'')

pub returns-in_default : goal.returns-in_default
returns-in_default c =
    let a = c.args in
    let f = c.in_default in
    rw (past-told a.edges.now a.e c.at-edge.ensures f.ensures, film-told a.edges.now a.e c.at-edge.ensures f.ensures', equal-told a.edges.now a.e c.at-edge.ensures f.ensures'')
