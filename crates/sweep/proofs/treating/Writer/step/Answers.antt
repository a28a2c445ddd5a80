-- `sweep::treating::Writer::step` meets its contract: each way out by its law of Outcomes.
use native.Mathlib.Omega.{arith}
use mathlib.Core.Path.{refl}
use Rattle.std.proofs.lemmas.Result.{err_from_is_err_and}
use Rattle.sweep.specs.Treated.{slices}
use Rattle.sweep.proofs.Outcomes.{step-no-row, step-stopped, step-end, met-there}
use Rattle.sweep.proofs.treating.Writer.step.Goals as goal

pub returns-in_err-r-clause-stepped : goal.returns-in_err-r-clause-stepped
returns-in_err-r-clause-stepped c = let p = err_from_is_err_and c.from_residual.result c.from_residual.ensures.1 in rw (p.1, p.2)
    (step-no-row (slices c.args.self.now) c.args.level c.args.e c.side-side.ensures c.in_err-r.ensures.chained)

pub attach-requires : goal.attach-requires
attach-requires c = c.in_ok-r.ensures.chained.row.0

pub returns-in_err-attach-clause-stepped : goal.returns-in_err-attach-clause-stepped
returns-in_err-attach-clause-stepped c = let p = err_from_is_err_and c.from_residual-in_err-attach.result c.from_residual-in_err-attach.ensures.1 in rw (p.1, p.2)
    (step-stopped (slices c.args.self.now) c.args.level c.args.e c.side-side.result c.side-side.ensures c.in_ok-r.ensures.chained c.in_ok-r.ensures.lent.kept c.in_err-attach.ensures.attached refl)

pub meet-requires : goal.meet-requires
meet-requires c = (omega (arith, c.in_ok-r.ensures.chained.row.0, c.in_ok-attach.ensures.lent.kept.rows), met-there (slices c.attach.new.self) c.args.level c.side-side.result c.args.e c.meeting-found.result c.meeting-found.ensures)

pub returns-clause-stepped : goal.returns-clause-stepped
returns-clause-stepped c =
    step-end (slices c.args.self.now) c.args.level c.args.e c.side-side.result c.side-side.ensures c.in_ok-r.ensures.chained c.in_ok-r.ensures.lent.kept c.in_ok-attach.ensures.attached refl c.in_ok-attach.ensures.lent.kept
    c.meeting-found.result c.meeting-found.ensures c.meet.ensures
