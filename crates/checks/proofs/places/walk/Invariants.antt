-- `checks::places::walk` meets its contract. The loop's invariant: what is to be found among the ends before the next place is.
use mathlib.Core.Path.{◌≡◌}
use lib.ListN.{length}
use Rattle.checks.specs.Places.{FoundSoFar}
use Rattle.checks.proofs.places.walk.Given as goal

abbrev pub invariant-loop-from : goal.invariant-loop-from
invariant-loop-from l = (l.from-iterator.words.now ≡ l.words) × FoundSoFar l.words (length l.words) l.from-iterator.from l.found
