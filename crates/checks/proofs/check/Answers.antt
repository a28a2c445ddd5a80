-- `checks::check` meets its contract: the stages in a row are `checked`, and only the last one looks at corners and numbers places.
use mathlib.Core.Path.{sym, ◌∙◌}
use Rattle.laws.proofs.Deciding.{not-both}
use Rattle.std.proofs.lemmas.Result.{err_from_is_err_and}
use Rattle.checks.proofs.Answering.{by-stages, then-refused, then-passed, list-passed, few-edges, checked-fit, lengths-before, edges-before}
use Rattle.checks.proofs.check.Goals as goal

pub returns-in_err-check-clause-marks_after : goal.returns-in_err-check-clause-marks_after
returns-in_err-check-clause-marks_after c =
    let p = err_from_is_err_and c.from_residual.result c.from_residual.ensures.1 in
    let given = sym c.check.ensures ∙ c.in_err-check.was in
    rw (p.1, p.2) (record { seen = λ h. absurd (not-both h (lengths-before _ _ given)); unseen = λ h. c.requires.0 })

pub returns-in_err-check-clause-value : goal.returns-in_err-check-clause-value
returns-in_err-check-clause-value c =
    let p = err_from_is_err_and c.from_residual.result c.from_residual.ensures.1 in
    rw (p.1, p.2) (then-refused _ (sym c.check.ensures ∙ c.in_err-check.was) ∙ by-stages _)

pub check-requires-2 : goal.check-requires-2
check-requires-2 c = few-edges _ (list-passed _ (sym c.check.ensures ∙ c.in_ok-check.was))

pub returns-in_err-check-2-clause-marks_after : goal.returns-in_err-check-2-clause-marks_after
returns-in_err-check-2-clause-marks_after c =
    let p = err_from_is_err_and c.from_residual-in_err-check-2.result c.from_residual-in_err-check-2.ensures.1 in
    let given = sym c.check-2.ensures ∙ c.in_err-check-2.was in
    rw (p.1, p.2) (record { seen = λ h. absurd (not-both h (edges-before _ _ given)); unseen = λ h. c.requires.0 })

pub returns-in_err-check-2-clause-value : goal.returns-in_err-check-2-clause-value
returns-in_err-check-2-clause-value c =
    let p = err_from_is_err_and c.from_residual-in_err-check-2.result c.from_residual-in_err-check-2.ensures.1 in
    rw (p.1, p.2) (then-refused _ (sym c.check-2.ensures ∙ c.in_err-check-2.was) ∙ then-passed _ (sym c.check.ensures ∙ c.in_ok-check.was) ∙ by-stages _)

pub check-requires-3 : goal.check-requires-3
check-requires-3 c = (checked-fit _ (list-passed _ (sym c.check.ensures ∙ c.in_ok-check.was)) (sym c.check-2.ensures ∙ c.in_ok-check-2.was), c.requires.0, c.requires.1)

pub returns-clause-value : goal.returns-clause-value
returns-clause-value c = c.check-3.ensures.0 ∙ then-passed _ (sym c.check-2.ensures ∙ c.in_ok-check-2.was) ∙ then-passed _ (sym c.check.ensures ∙ c.in_ok-check.was) ∙ by-stages _
