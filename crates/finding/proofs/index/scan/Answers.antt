-- `finding::index::scan` meets its contract. The loop's invariant: no row passed has such a tip. Past the slice no row has one.
use Rattle.std.proofs.Common.{arith, sym, ◌∙◌}
use Rattle.rows.specs.Layout.{has_tip_in}
use Rattle.rows.proofs.Searching.{found, nothing, past-no-tip}
use Rattle.finding.proofs.index.scan.Goals as goal

pub returns-then-has_tip : goal.returns-then-has_tip
returns-then-has_tip c = let a = c.args in
    found (has_tip_in a.rows.now a.level a.side a.tip) a.peak c.min-r-end.result (omega (arith, c.min-r-end.ensures)) c.loop-r.r (omega arith) (sym c.has_tip.ensures ∙ c.if-has_tip.true) c.loop-r.invariant

pub returns : goal.returns
returns c = let a = c.args in
    nothing (has_tip_in a.rows.now a.level a.side a.tip) a.peak c.min-r-end.result (omega (arith, c.min-r-end.ensures)) (λ k h. c.loop-r.invariant k (omega arith))
    (λ k h l. past-no-tip a.rows.now a.level a.side a.tip k (omega (arith, c.min-r-end.ensures, c.rows_in.ensures)))
