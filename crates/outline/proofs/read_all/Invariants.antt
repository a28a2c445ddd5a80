-- `read_all` is safe and ends: what has been read lies within the room, and with each turn less of the room is left.
use Rattle.std.proofs.Common.{◌-◌, ◌≤◌, length}
use Rattle.outline.proofs.read_all.Given as goal

abbrev pub invariant-loop-n : goal.invariant-loop-n
invariant-loop-n g l = l.n ≤ length l.room

abbrev pub decreases-loop-n : goal.decreases-loop-n
decreases-loop-n g l = length l.initial.room - l.n
