-- `finding::free::lowest_free` meets its contract. The loop's invariant: where the notes are good, every row passed is in use. Those before the start are
-- noted. Past the slice every row is free.
use Rattle.std.proofs.Common.{◌≡◌, ℕ, ◌<◌, true}
use Rattle.rows.specs.Layout.{look_row}
use Rattle.finding.specs.Free.{InUse}
use Rattle.finding.proofs.free.lowest_free.Given as goal

abbrev pub invariant-loop-r : goal.invariant-loop-r
invariant-loop-r l = InUse l.counts l.rows → (k : ℕ) → k < l.r → (look_row l.rows k).used ≡ true
