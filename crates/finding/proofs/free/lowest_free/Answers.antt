-- `finding::free::lowest_free` meets its contract. The loop's invariant: where the notes are good, every row passed is in use. Those before the start are
-- noted. Past the slice every row is free.
use Rattle.std.proofs.Common.{not, arith, ap}
use Rattle.std.proofs.lemmas.Grind.{common_steps}
use Rattle.rows.proofs.Searching.{free-found, all_in_use}
use Rattle.finding.proofs.free.lowest_free.Goals as goal

pub returns-then-not-is_used : goal.returns-then-not-is_used
returns-then-not-is_used c = λ I.
    free-found c.args.rows.now _ c.min-n.result (grind (arith, common_steps)) c.loop-r.r c.loop-r-test.true (grind (arith, common_steps)) (λ k h. ap not (c.loop-r.invariant I k h))

pub returns : goal.returns
returns c = λ I. all_in_use c.args.rows.now _ c.min-n.result (grind (arith, common_steps)) (λ k h. ap not (c.loop-r.invariant I k (omega arith)))
