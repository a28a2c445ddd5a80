-- `read_lines` goes from line to line. The invariant: the lines passed are well formed and their edges written, and the cursor stands where the
-- next begins. One law for each way out of the loop's body, and one for its end.
use Rattle.std.proofs.Common.{◌≡◌}
use Rattle.text.proofs.Tried.{SoFar}
use Rattle.text.proofs.read_lines.Given as goal

abbrev pub invariant-loop-n : goal.invariant-loop-n
invariant-loop-n l = (l.cursor.text.now ≡ l.text) × SoFar l.text l.initial.edges l.edges l.cursor.at l.n
