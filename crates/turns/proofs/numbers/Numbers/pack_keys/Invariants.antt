-- `Numbers::pack_keys` meets its contract. The loop's invariant: the first e words are the keys of the edges below e.
use Rattle.std.proofs.Common.{◌≡◌, ℕ, ◌<◌, get_or}
use Rattle.turns.specs.Keys.{key_at}
use Rattle.turns.specs.Numbered.{lists_of}
use Rattle.turns.proofs.numbers.Numbers.pack_keys.Given as goal

abbrev pub invariant-loop-e : goal.invariant-loop-e
invariant-loop-e l = (k : ℕ) → k < l.e → get_or l.keys k 0 ≡ key_at (lists_of l.self) k
