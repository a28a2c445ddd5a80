-- `cutter::instruction` meets its contract: each way out is a law of Instructing.
use mathlib.Core.Path.{sym, ◌∙◌}
use native.Mathlib.Omega.{arith}
use Rattle.std.proofs.lemmas.Result.{err_from_is_err_and}
use Rattle.sheet.specs.Edges.{edges_in}
use Rattle.checks.proofs.Answering.{alone-fit}
use Rattle.cutter.proofs.Standing.{within-polygons, standing}
use Rattle.cutter.proofs.Instructing.{on-edges, on-turns, drawable, on-broken, on-joined}
use Rattle.cutter.proofs.instruction.Goals as goal

pub returns-in_err-check_edges : goal.returns-in_err-check_edges
returns-in_err-check_edges c =
    let p = err_from_is_err_and c.from_residual.result c.from_residual.ensures.1 in
    rw (p.1, p.2) (on-edges _ _ _ _ _ _ _ (sym c.check_edges.ensures ∙ c.in_err-check_edges.was))

pub check-requires : goal.check-requires
unfolding edges_in
check-requires c = (alone-fit _ (sym c.check_edges.ensures ∙ c.in_ok-check_edges.was)).few

pub returns-in_err-check : goal.returns-in_err-check
unfolding edges_in
returns-in_err-check c =
    let p = err_from_is_err_and c.from_residual-in_err-check.result c.from_residual-in_err-check.ensures.1 in
    rw (p.1, p.2) (on-turns _ _ _ _ _ _ (sym c.check_edges.ensures ∙ c.in_ok-check_edges.was) c.check.ensures _ c.in_err-check.was)

pub invariant_of-outlines : goal.invariant_of-outlines
unfolding edges_in
invariant_of-outlines c =
    let drawn = drawable _ _ _ _ (sym c.check_edges.ensures ∙ c.in_ok-check_edges.was) c.check.ensures c.in_ok-check.was in
    record { within = within-polygons drawn; standing = standing drawn; long = omega (arith, drawn.long, drawn.same) }

pub returns-in-Some : goal.returns-in-Some
unfolding edges_in
returns-in-Some c = on-broken _ _ _ _ _ _ (sym c.check_edges.ensures ∙ c.in_ok-check_edges.was) c.check.ensures c.in_ok-check.was c.in-Some.ensures

pub instruction_at-requires : goal.instruction_at-requires
unfolding edges_in
instruction_at-requires c = drawable _ _ _ _ (sym c.check_edges.ensures ∙ c.in_ok-check_edges.was) c.check.ensures c.in_ok-check.was

pub returns : goal.returns
unfolding edges_in
returns c = on-joined _ _ _ _ _ _ (sym c.check_edges.ensures ∙ c.in_ok-check_edges.was) c.check.ensures c.in_ok-check.was c.in_default.ensures c.instruction_at.ensures
