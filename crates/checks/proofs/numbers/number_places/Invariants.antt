-- `checks::numbers::number_places` meets its contract. The loop's invariant: the ends before k have their numbers, and of the place of the last of them it is
-- known where it begins.
use Prim.Native.Nat.{◌/◌}
use lib.ListN.{length}
use Rattle.checks.specs.Numbers.{NumbersSoFar}
use Rattle.checks.proofs.PlaceNumbers.{Begun}
use Rattle.checks.proofs.numbers.number_places.Given as goal

abbrev pub invariant-loop-k : goal.invariant-loop-k
invariant-loop-k l = Begun l.words (length l.words / 2) l.k l.place l.first × NumbersSoFar l.words (length l.words / 2) l.k l.numbers
