-- `put_word` has put the bytes passed, at every step of the loop.
use Rattle.std.proofs.Common.{take}
use Rattle.printing.specs.Laid.{Put}
use Rattle.printing.proofs.bytes.Output.put_word.Given as goal

abbrev pub invariant-loop-byte : goal.invariant-loop-byte
invariant-loop-byte l = Put l.initial.self (take l.byte-index l.word) l.self
