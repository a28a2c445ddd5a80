-- `checks::visits::least_edge` meets its contract. The loop's invariant: of the ends before k the least edge is found.
use mathlib.Core.Path.{◌≡◌}
use mathlib.Core.Bool.{Bool}
use Prim.Native.Nat.{ℕ, ◌≤◌, ◌<◌}
use Rattle.ends.specs.Ends.{edge_in}
use Rattle.checks.specs.Places.{Least}
use Rattle.checks.proofs.visits.least_edge.Given as goal

abbrev pub invariant-loop-k : goal.invariant-loop-k
invariant-loop-k g l = (p : ℕ → Bool) → ((k : ℕ) (r : Bool) → l.from ≤ k → k < l.to → goal.F-post g l.test k r → r ≡ p k) → Least p (edge_in l.words) l.from l.k l.least
