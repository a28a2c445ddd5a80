-- `checks::visits::least_edge` meets its contract. The loop's invariant: of the ends before k the least edge is found.
use mathlib.Core.Path.{sym, ◌∙◌}
use native.Mathlib.Omega.{arith}
use Rattle.checks.proofs.LeastEdge.{least-passed, least-failed}
use Rattle.checks.proofs.visits.least_edge.Goals as goal
use Rattle.checks.proofs.visits.least_edge.Goals.{then-test, else-test}

pub loop-k-preserved : goal.loop-k-preserved
loop-k-preserved g c p told =
    let passes = told c.loop-k.k c.test.result (omega (arith, c.loop-k.auto.k)) c.loop-k-test.true c.test.ensures in
    elim c.if-test.branch [
      | then-test w ↦ rw (w.least-is, w.lower-least.ensures, w.edge_of.ensures) (least-passed c.loop-k.least (omega (arith, c.loop-k.auto.k)) (sym passes ∙ w.if-test.true) (c.loop-k.invariant p told))
      | else-test w ↦ rw w.least-is (least-failed c.loop-k.least (omega (arith, c.loop-k.auto.k)) (sym passes ∙ w.if-test.false) (c.loop-k.invariant p told))
    ]
