-- `checks::faults::refuse` meets its contract: the edge at fault is one of the list's, which has at most 4,096.
use native.Mathlib.Omega.{arith}
use Rattle.sheet.specs.Edges.{edges_in}
use Rattle.checks.proofs.faults.refuse.Goals as goal

pub fault_of-requires : goal.fault_of-requires
unfolding edges_in
fault_of-requires c = let l = rw c.in-Some.is at c.requires.1 in (omega (arith, l), omega (arith, l, c.requires.0))
