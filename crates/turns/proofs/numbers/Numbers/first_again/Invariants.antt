-- `Numbers::first_again` meets its contract. The loop's invariant is `Marking`.
use Rattle.turns.specs.Numbered.{lists_of}
use Rattle.turns.proofs.Marking.{Marking}
use Rattle.turns.proofs.numbers.Numbers.first_again.Given as goal

abbrev pub invariant-loop-later : goal.invariant-loop-later
invariant-loop-later l = Marking (lists_of l.self) l.keys.words.now l.order l.later
