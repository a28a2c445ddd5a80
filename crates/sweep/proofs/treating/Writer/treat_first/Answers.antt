-- `sweep::treating::Writer::treat_first` meets its contract: each way out by its law of Outcomes.
use native.Mathlib.Omega.{arith}
use mathlib.Core.Path.{sym, ◌∙◌}
use Rattle.std.proofs.lemmas.Result.{err_from_is_err_and}
use Rattle.sweep.specs.Treated.{slices}
use Rattle.sweep.proofs.Outcomes.{closed, step-halted, step-done, step-passed}
use Rattle.sweep.proofs.treating.Writer.treat_first.Goals as goal

pub returns-then-same-clause-treated : goal.returns-then-same-clause-treated
returns-then-same-clause-treated c = closed (slices c.args.self.now) 12 0 c.args.e (sym c.same.ensures ∙ c.if-same.true) c.close.ensures.beside c.close.ensures.closed

pub returns-in_err-q-clause-treated : goal.returns-in_err-q-clause-treated
returns-in_err-q-clause-treated c = let p = err_from_is_err_and c.from_residual.result c.from_residual.ensures.1 in rw (p.1, p.2)
    (step-halted (slices c.args.self.now) 12 0 c.args.e (sym c.same.ensures ∙ c.if-same.false) (omega arith) c.in_err-q.ensures.stepped)

pub returns-in_default-clause-treated : goal.returns-in_default-clause-treated
returns-in_default-clause-treated c = step-done (slices c.args.self.now) 12 0 c.args.e (sym c.same.ensures ∙ c.if-same.false) (omega arith) c.in_default.is c.in_ok-q.ensures.stepped

pub returns-clause-treated : goal.returns-clause-treated
returns-clause-treated c =
    step-passed (slices c.args.self.now) 12 0 c.args.e (sym c.same.ensures ∙ c.if-same.false) (omega arith) {p = (c.in-Some.q, c.in-Some.r)} c.in-Some.is c.in_ok-q.ensures.stepped c.in_ok-q.ensures.lent.kept c.pass_both.ensures.treated
