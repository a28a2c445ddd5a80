-- `sweep::up::sweep_list` meets its contract: the records that the steps write are there.
use Rattle.sweep.specs.Slices.{list_edges}
use Rattle.sweep.proofs.Sweeping.{records-there}
use Rattle.sweep.proofs.up.sweep_list.Goals as goal

pub returns-clause-records_in_bounds : goal.returns-clause-records_in_bounds
returns-clause-records_in_bounds c = records-there c.args.rows.now c.args.journal.now (list_edges c.args.list.edges.now) c.args.list.count c.treat_all.result c.treat_all.ensures.result_after
