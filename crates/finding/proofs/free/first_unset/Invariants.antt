-- `finding::free::first_unset` meets its contract. The loop's invariant: the words passed are full, so that their rows are noted.
use Rattle.std.proofs.Common.{◌*◌}
use Rattle.finding.specs.Free.{NotedTo}
use Rattle.finding.proofs.free.first_unset.Given as goal

abbrev pub invariant-loop-w : goal.invariant-loop-w
invariant-loop-w l = NotedTo l.counts (64 * l.w)
