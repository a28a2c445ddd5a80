-- `checks::lengths::check` meets its contract: each way out is a law of Answering, from the comparisons that led there.
use mathlib.Core.Path.{sym, ◌∙◌}
use Rattle.std.proofs.lemmas.Result.{err_from_is_err_and}
use Rattle.checks.specs.Stages.{lengths_checked}
use Rattle.checks.proofs.Answering.{then-refused, on-polygons, on-sequences, on-turns, on-journal, on-lengths}
use Rattle.checks.proofs.lengths.check.Goals as goal
use Rattle.checks.proofs.lengths.check.Goals.{then-lengths-n-via-then-lengths-n, then-lengths-n-via-else-lengths-n+then-lengths-n-2, then-lengths-n-via-else-lengths-n+else-lengths-n-2+then-lengths-n-3}

pub returns-in_err-check_list : goal.returns-in_err-check_list
unfolding lengths_checked
returns-in_err-check_list c =
    let p = err_from_is_err_and c.from_residual.result c.from_residual.ensures.1 in
    rw (p.1, p.2) (then-refused _ (sym c.check_list.ensures ∙ c.in_err-check_list.was))

pub returns-then-lengths-n : goal.returns-then-lengths-n
returns-then-lengths-n c =
    let list = sym c.check_list.ensures ∙ c.in_ok-check_list.was in
    elim c.then-lengths-n.branch [
      | then-lengths-n-via-then-lengths-n w ↦ on-polygons _ _ _ _ _ list w.if-lengths-n.true
      | then-lengths-n-via-else-lengths-n+then-lengths-n-2 w ↦ on-sequences _ _ _ _ _ list w.if-lengths-n.false w.if-lengths-n-2.true
      | then-lengths-n-via-else-lengths-n+else-lengths-n-2+then-lengths-n-3 w ↦ on-turns _ _ _ _ _ list w.if-lengths-n.false w.if-lengths-n-2.false w.if-lengths-n-3.true
    ]

pub returns-then-lengths-n-4 : goal.returns-then-lengths-n-4
returns-then-lengths-n-4 c = on-journal _ _ _ _ _ (sym c.check_list.ensures ∙ c.in_ok-check_list.was) c.if-lengths-n.false c.if-lengths-n-2.false c.if-lengths-n-3.false c.if-lengths-n-4.true

pub returns : goal.returns
returns c = on-lengths _ _ _ _ _ (sym c.check_list.ensures ∙ c.in_ok-check_list.was) c.if-lengths-n.false c.if-lengths-n-2.false c.if-lengths-n-3.false c.if-lengths-n-4.false
