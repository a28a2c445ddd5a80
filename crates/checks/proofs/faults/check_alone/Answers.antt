-- `checks::faults::check_alone` meets its contract: the first edge at fault is refused.
use Rattle.checks.specs.Stages.{edges_alone_checked, edge_fault_alone}
use Rattle.checks.proofs.Answering.{first-within}
use Rattle.checks.proofs.faults.check_alone.Goals as goal

pub refuse-requires : goal.refuse-requires
refuse-requires c = (c.requires, first-within _ _ _ c.first_alone.ensures)

pub returns : goal.returns
unfolding edges_alone_checked
returns c = c.refuse.ensures (edge_fault_alone c.args.edges.now) c.first_alone.ensures
