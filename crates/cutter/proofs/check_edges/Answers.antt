-- `cutter::check_edges` meets its contract, the two stages in a row: a list that passes the first is short enough for the second.
use mathlib.Core.Path.{sym, ◌∙◌}
use Rattle.checks.proofs.Answering.{few-edges}
use Rattle.cutter.proofs.check_edges.Goals as goal

pub check_alone-requires : goal.check_alone-requires
check_alone-requires c = few-edges _ (sym c.check_list.ensures ∙ c.in_ok-check_list.was)
