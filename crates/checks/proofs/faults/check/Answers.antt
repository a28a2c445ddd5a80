-- `checks::faults::check` meets its contract: the first edge at fault is refused.
use Rattle.sheet.specs.Answers.{edge_fault}
use Rattle.checks.specs.Stages.{edges_checked}
use Rattle.checks.proofs.Answering.{first-within}
use Rattle.checks.proofs.faults.check.Goals as goal

pub refuse-requires : goal.refuse-requires
refuse-requires c = (c.requires, first-within _ _ _ c.first_fault.ensures)

pub returns : goal.returns
unfolding edges_checked
returns c = c.refuse.ensures (edge_fault c.args.edges.now) c.first_fault.ensures
