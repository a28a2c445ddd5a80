-- `sweep::treating::Writer::chain_row` meets its contract. The row is found, or the lowest free one is opened, or there is none.
use native.Mathlib.Omega.{arith}
use Rattle.std.proofs.lemmas.Result.{err_from_is_err_and}
use Rattle.sweep.specs.Treated.{slices}
use Rattle.sweep.proofs.Chaining.{chained-found, chained-none, chained-opened}
use Rattle.sweep.proofs.treating.Writer.chain_row.Goals as goal

pub returns-clause-chained : goal.returns-clause-chained
returns-clause-chained c = chained-found (slices c.args.self.now) c.args.level c.args.side c.args.e c.find.ensures c.in-Some.is

pub returns-in_err-r-clause-chained : goal.returns-in_err-r-clause-chained
returns-in_err-r-clause-chained c = let p = err_from_is_err_and c.from_residual.result c.from_residual.ensures.1 in rw (p.1, p.2) (chained-none (slices c.args.self.now) c.args.level c.args.side c.args.e c.find.ensures c.in_default.is c.in_err-r.ensures)

pub returns-in_default-clause-chained : goal.returns-in_default-clause-chained
returns-in_default-clause-chained c = chained-opened (slices c.args.self.now) c.args.level c.args.side c.args.e c.find.ensures c.in_default.is c.in_ok-r.ensures c.open_lowest.ensures.rows_after c.open_lowest.ensures.opened (omega (arith, c.in_ok-r.ensures.0, c.open_lowest.auto.rows))
