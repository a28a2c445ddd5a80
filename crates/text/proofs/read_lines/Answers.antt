-- `read_lines` goes from line to line. The invariant: the lines passed are well formed and their edges written, and the cursor stands where the
-- next begins. One law for each way out of the loop's body, and one for its end.
use Rattle.std.proofs.Common.{◌≡◌, ◌+◌, arith, rules, refl, ap, ◌∙◌}
use denote.Bor.{now}
use Rattle.std.proofs.lemmas.Result.{err_from_is_err_and}
use Rattle.text.specs.declared.TextRefusal.TheVariants.{Malformed}
use Rattle.text.proofs.Tried.{none_so_far, stopped, ran_out, one_more}
use Rattle.text.proofs.read_lines.Goals as goal

pub loop-n-init : goal.loop-n-init
loop-n-init c = (refl, none_so_far _ _)

pub returns-in_err-edge : goal.returns-in_err-edge
returns-in_err-edge c =
    let p = err_from_is_err_and c.from_residual.result c.from_residual.ensures.1 in
    let none = c.in_err-edge.ensures.ok_part in
    let says = rw c.loop-n.invariant.0 at c.line.ensures.says in
    let same : c.in_err-edge.field-0.0 ≡ Malformed (c.loop-n.n + 1) = cc (rw none at c.in_err-edge.ensures.value) in
    rw (p.1, p.2, same) (stopped _ c.loop-n.invariant.1 c.loop-n-test.true says none)

pub loop-n-preserved : goal.loop-n-preserved
loop-n-preserved c =
    let found = c.in_ok-edge.ensures.ok_part in
    let says = rw c.loop-n.invariant.0 at c.line.ensures.says in
    let text = rw found at c.line.ensures.text in (
      ap now text ∙ c.loop-n.invariant.0,
      one_more _ c.loop-n.invariant.1 (omega (arith, c.loop-n.invariant.1.filled.same_length)) says found c.put.ensures,
    )

pub returns : goal.returns
returns c = ran_out _ c.loop-n.invariant.1 (search rules)
