-- The three functions that pass rows up, which call each other in a round, meet their contracts: each way out by a law of Passing or Outcomes.
use native.Mathlib.Omega.{arith}
use mathlib.Core.Path.{sym, ◌∙◌}
use Prim.Native.Nat.{◌+◌, ◌-◌}
use Rattle.std.proofs.lemmas.Result.{err_from_is_err_and}
use Rattle.sweep.specs.Treated.{slices}
use Rattle.sweep.proofs.Outcomes.{raising, from-raised, closed, none_left, step-halted, step-done, step-passed}
use Rattle.sweep.proofs.Passing.{passed-not, passed, both_ends, one-row, both-rows}
use Rattle.sweep.proofs.treating.Writer.+pass_both_pass_up_raise.Goals as goal

pub pass_both-returns-in_err-pass_up-clause-treated : goal.pass_both-returns-in_err-pass_up-clause-treated
pass_both-returns-in_err-pass_up-clause-treated t c = let g = c.args in
    let p = err_from_is_err_and c.from_residual.result c.from_residual.ensures.1 in rw (p.1, p.2)
    (both_ends (slices g.self.now) (g.left - 1) (g.level + 1) g.q g.r c.in_err-pass_up.ensures.treated)

pub pass_both-returns-then-q-r-clause-treated : goal.pass_both-returns-then-q-r-clause-treated
pass_both-returns-then-q-r-clause-treated t c = let g = c.args in
    one-row (slices g.self.now) (g.left - 1) (g.level + 1) g.q g.r c.in_ok-pass_up.ensures.treated c.if-q-r.true

pub pass_both-returns-clause-treated : goal.pass_both-returns-clause-treated
pass_both-returns-clause-treated t c = let g = c.args in
    both-rows (slices g.self.now) (g.left - 1) (g.level + 1) g.q g.r c.in_ok-pass_up.ensures.treated c.if-q-r.false c.in_ok-pass_up.ensures.lent.kept c.pass_up-2.ensures.treated

pub pass_up-returns-then-not-is_finished-clause-treated : goal.pass_up-returns-then-not-is_finished-clause-treated
pass_up-returns-then-not-is_finished-clause-treated t c = let g = c.args in
    passed-not (slices g.self.now) (g.left - 1) (g.level + 1) g.r c.is_finished.ensures c.if-not-is_finished.true

pub pass_up-returns-clause-treated : goal.pass_up-returns-clause-treated
pass_up-returns-clause-treated t c = let g = c.args in
    passed (slices g.self.now) (g.left - 1) (g.level + 1) g.r c.is_finished.ensures c.if-not-is_finished.false c.raise.ensures.treated

pub raise-returns-then-same-clause-treated : goal.raise-returns-then-same-clause-treated
raise-returns-then-same-clause-treated t c =
    let l = slices c.args.self.now in
    let E = c.as_edge-e.ensures in
    from-raised l c.args.r c.requires.0 c.as_edge-e.result E.edge.0 E.numbers.0 E.numbers.1 c.free_row.ensures c.give_back.ensures (c.args.above - 1) (c.args.under + 1)
    (closed (raising l c.args.r c.requires.0 c.as_edge-e.result E.edge.0 E.numbers.0 E.numbers.1 c.free_row.ensures c.give_back.ensures) (c.args.above - 1) (c.args.under + 1) c.as_edge-e.result (sym c.same.ensures ∙ c.if-same.true) c.close.ensures.beside c.close.ensures.closed)

pub raise-returns-then-left-eq0-clause-treated : goal.raise-returns-then-left-eq0-clause-treated
raise-returns-then-left-eq0-clause-treated t c =
    let l = slices c.args.self.now in
    let E = c.as_edge-e.ensures in
    from-raised l c.args.r c.requires.0 c.as_edge-e.result E.edge.0 E.numbers.0 E.numbers.1 c.free_row.ensures c.give_back.ensures (c.args.above - 1) (c.args.under + 1)
    (none_left (raising l c.args.r c.requires.0 c.as_edge-e.result E.edge.0 E.numbers.0 E.numbers.1 c.free_row.ensures c.give_back.ensures) (c.args.above - 1) (c.args.under + 1) c.as_edge-e.result (sym c.same.ensures ∙ c.if-same.false) c.if-left-eq0.true)

pub raise-returns-in_err-q-clause-treated : goal.raise-returns-in_err-q-clause-treated
raise-returns-in_err-q-clause-treated t c =
    let l = slices c.args.self.now in
    let E = c.as_edge-e.ensures in
    let p = err_from_is_err_and c.from_residual.result c.from_residual.ensures.1 in rw (p.1, p.2)
    (from-raised l c.args.r c.requires.0 c.as_edge-e.result E.edge.0 E.numbers.0 E.numbers.1 c.free_row.ensures c.give_back.ensures (c.args.above - 1) (c.args.under + 1)
    (step-halted _ (c.args.above - 1) (c.args.under + 1) c.as_edge-e.result (sym c.same.ensures ∙ c.if-same.false) (omega (arith, c.if-left-eq0.false)) c.in_err-q.ensures.stepped))

pub raise-returns-in_default-clause-treated : goal.raise-returns-in_default-clause-treated
raise-returns-in_default-clause-treated t c =
    let l = slices c.args.self.now in
    let E = c.as_edge-e.ensures in
    from-raised l c.args.r c.requires.0 c.as_edge-e.result E.edge.0 E.numbers.0 E.numbers.1 c.free_row.ensures c.give_back.ensures (c.args.above - 1) (c.args.under + 1)
    (step-done _ (c.args.above - 1) (c.args.under + 1) c.as_edge-e.result (sym c.same.ensures ∙ c.if-same.false) (omega (arith, c.if-left-eq0.false)) c.in_default.is c.in_ok-q.ensures.stepped)

pub raise-returns-clause-treated : goal.raise-returns-clause-treated
raise-returns-clause-treated t c =
    let l = slices c.args.self.now in
    let E = c.as_edge-e.ensures in
    from-raised l c.args.r c.requires.0 c.as_edge-e.result E.edge.0 E.numbers.0 E.numbers.1 c.free_row.ensures c.give_back.ensures (c.args.above - 1) (c.args.under + 1)
    (step-passed _ (c.args.above - 1) (c.args.under + 1) c.as_edge-e.result (sym c.same.ensures ∙ c.if-same.false) (omega (arith, c.if-left-eq0.false)) {p = (c.in-Some.q, c.in-Some.s)} c.in-Some.is c.in_ok-q.ensures.stepped c.in_ok-q.ensures.lent.kept c.pass_both.ensures.treated)
