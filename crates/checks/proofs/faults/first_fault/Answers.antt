-- `checks::faults::first_fault` meets its contract. The loop's invariant: no edge below e has a fault, and the rank that is carried along is that of the top
-- before e.
use mathlib.Core.Path.{◌≡◌, refl, sym, ◌∙◌}
use mathlib.Core.Bool.{true}
use Prim.Native.Nat.{max}
use borrow.Author.Tests.{lt-ltb, le-ltb, eq-eqb, ne_eqb}
use borrow.Author.Rules.{rules}
use Rattle.laws.proofs.Searching.{none_yet, none_more, found_first, found_none}
use Rattle.sheet.specs.Edges.{edges_in}
use Rattle.sheet.specs.Answers.{edge_fault}
use Rattle.checks.specs.Faults.{top_before}
use Rattle.checks.proofs.EdgeFaults.{limits-told, past-fault, fault-by-ranks, top-next}
use Rattle.checks.proofs.faults.first_fault.Goals as goal
use Rattle.checks.proofs.faults.first_fault.Goals.{then-tail_rank-head_rank-via-then-tail_rank-head_rank, then-tail_rank-head_rank-via-else-tail_rank-head_rank+then-top-last}

pub loop-e-init : goal.loop-e-init
unfolding top_before
loop-e-init c = (refl, none_yet _)

pub returns-then-past_limits : goal.returns-then-past_limits
unfolding edges_in
returns-then-past_limits c =
    let limits = limits-told c.args.edges.now c.loop-e.e c.at-edge.ensures c.past_limits.ensures in
    (c.loop-e-test.true, found_first _ c.loop-e.invariant.1 c.loop-e-test.true (past-fault _ _ (limits ∙ c.if-past_limits.true)))

pub returns-then-tail_rank-head_rank : goal.returns-then-tail_rank-head_rank
unfolding edges_in
returns-then-tail_rank-head_rank c =
    let within = limits-told c.args.edges.now c.loop-e.e c.at-edge.ensures c.past_limits.ensures ∙ c.if-past_limits.false in
    let higher : c.top_rank-top.result ≡ max c.tail_rank.result c.head_rank.result = rw (c.tail_rank.ensures, c.head_rank.ensures) c.top_rank-top.ensures in
    let told = fault-by-ranks c.args.edges.now c.loop-e.e within c.at-edge.ensures c.tail_rank.ensures c.head_rank.ensures higher c.loop-e.invariant.0 c.loop-e.invariant.1 in
    let at-fault : edge_fault c.args.edges.now c.loop-e.e ≡ true =
    elim c.then-tail_rank-head_rank.branch [
      | then-tail_rank-head_rank-via-then-tail_rank-head_rank w ↦ told ∙ rw (eq-eqb _ _ w.if-tail_rank-head_rank.true)
      | then-tail_rank-head_rank-via-else-tail_rank-head_rank+then-top-last w ↦ told ∙ rw (ne_eqb _ _ w.if-tail_rank-head_rank.false, lt-ltb _ _ w.if-top-last.true)
    ] in
    (c.loop-e-test.true, found_first _ c.loop-e.invariant.1 c.loop-e-test.true at-fault)

pub loop-e-preserved : goal.loop-e-preserved
loop-e-preserved c =
    let within = limits-told c.args.edges.now c.loop-e.e c.at-edge.ensures c.past_limits.ensures ∙ c.if-past_limits.false in
    let higher : c.top_rank-top.result ≡ max c.tail_rank.result c.head_rank.result = rw (c.tail_rank.ensures, c.head_rank.ensures) c.top_rank-top.ensures in
    let told = fault-by-ranks c.args.edges.now c.loop-e.e within c.at-edge.ensures c.tail_rank.ensures c.head_rank.ensures higher c.loop-e.invariant.0 c.loop-e.invariant.1 in (
      top-next c.args.edges.now c.loop-e.e within c.at-edge.ensures c.tail_rank.ensures c.head_rank.ensures higher,
      none_more _ c.loop-e.invariant.1 (told ∙ rw (ne_eqb _ _ c.if-tail_rank-head_rank.false, le-ltb _ _ c.if-top-last.false)),
    )

pub returns : goal.returns
unfolding edges_in
returns c = sym (found_none _ c.loop-e.invariant.1 (search rules))
