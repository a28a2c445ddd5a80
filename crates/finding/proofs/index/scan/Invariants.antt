-- `finding::index::scan` meets its contract. The loop's invariant: no row passed has such a tip. Past the slice no row has one.
use Rattle.std.proofs.Common.{◌≡◌, ℕ, ◌<◌, false}
use Rattle.rows.specs.Layout.{has_tip_in}
use Rattle.finding.proofs.index.scan.Given as goal

abbrev pub invariant-loop-r : goal.invariant-loop-r
invariant-loop-r l = (k : ℕ) → k < l.r → has_tip_in l.rows l.level l.side l.tip k ≡ false
