-- `checks::places::arriving` meets its contract. The loop's invariant: of the ends before k those are counted that arrive.
use mathlib.Core.Path.{◌≡◌}
use Prim.Native.Nat.{◌+◌}
use Rattle.laws.specs.Counting.{count}
use Rattle.ends.specs.Ends.{arrives_in}
use Rattle.checks.proofs.places.arriving.Given as goal

abbrev pub invariant-loop-k : goal.invariant-loop-k
invariant-loop-k l = l.number + count (arrives_in l.words) l.from ≡ count (arrives_in l.words) l.k
