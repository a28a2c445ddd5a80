-- `finding::free::first_unset` meets its contract. The loop's invariant: the words passed are full, so that their rows are noted.
use Rattle.std.proofs.Common.{arith}
use Rattle.finding.proofs.Noting.{noted-full, noted-part}
use Rattle.finding.proofs.free.first_unset.Goals as goal

pub returns-then-word : goal.returns-then-word
returns-then-word c = rw c.trailing_ones.ensures (noted-part _ c.loop-w.w c.loop-w.invariant (omega arith))

pub loop-w-preserved : goal.loop-w-preserved
loop-w-preserved c = noted-full _ c.loop-w.w c.loop-w.invariant c.if-word.false
