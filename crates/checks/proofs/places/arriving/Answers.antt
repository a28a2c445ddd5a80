-- `checks::places::arriving` meets its contract. The loop's invariant: of the ends before k those are counted that arrive.
use native.Mathlib.Omega.{arith}
use Rattle.laws.proofs.Counting.{count-le}
use Rattle.ends.specs.Ends.{arrives_in}
use Rattle.checks.proofs.Visiting.{arriving-more}
use Rattle.checks.proofs.places.arriving.Goals as goal

pub overflow_add-number : goal.overflow_add-number
overflow_add-number c = omega (arith, c.loop-k.invariant, c.arrival_of-number.ensures, count-le (arrives_in c.args.words.now) c.loop-k.k)

pub loop-k-preserved : goal.loop-k-preserved
loop-k-preserved c = let a = c.args in
    arriving-more a.words.now a.from c.loop-k.k c.loop-k.number c.loop-k.invariant c.arrival_of-number.ensures
