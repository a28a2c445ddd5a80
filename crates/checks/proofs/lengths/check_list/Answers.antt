-- `checks::lengths::check_list` meets its contract: each way out computes from the comparisons that led there.
use borrow.Author.Tests.{lt-ltb, le-ltb, eq-eqb, ne_eqb}
use Rattle.sheet.specs.Edges.{edges_in}
use Rattle.checks.specs.Stages.{list_checked}
use Rattle.checks.proofs.lengths.check_list.Goals as goal

pub returns-then-edges-ne0 : goal.returns-then-edges-ne0
unfolding list_checked edges_in
returns-then-edges-ne0 c = rw (ne_eqb _ _ c.if-edges-ne0.true)

pub returns-then-edges-gt-MOST_EDGES : goal.returns-then-edges-gt-MOST_EDGES
unfolding list_checked edges_in
returns-then-edges-gt-MOST_EDGES c = rw (eq-eqb _ _ c.if-edges-ne0.false, lt-ltb _ _ c.if-edges-gt-MOST_EDGES.true)

pub returns : goal.returns
unfolding list_checked edges_in
returns c = rw (eq-eqb _ _ c.if-edges-ne0.false, le-ltb _ _ c.if-edges-gt-MOST_EDGES.false)
