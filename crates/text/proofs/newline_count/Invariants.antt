-- `newline_count` is the count of the newlines passed, at every step of the loop.
use Rattle.std.proofs.Common.{◌≡◌, ◌==◌, take, count_by}
use Rattle.text.proofs.newline_count.Given as goal

abbrev pub invariant-loop-byte : goal.invariant-loop-byte
invariant-loop-byte l = l.n ≡ count_by (λ b. b == 10) (take l.byte-index l.text)
