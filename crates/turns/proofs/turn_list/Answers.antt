-- `turns::turn_list` meets its contract: 11 by its law, and the rest as `turn_numbers` has it. That it accepts exactly the good numberings is a law of
-- its answer.
use native.Mathlib.Omega.{arith}
use mathlib.Core.Path.{◌∙◌}
use Rattle.turns.proofs.Answering.{turned-differing, turned-numbers, turned-sizes, turned-room, answers-exactly}
use Rattle.turns.proofs.turn_list.Goals as goal

pub returns-then-lengths_differ-clause-answer : goal.returns-then-lengths_differ-clause-answer
returns-then-lengths_differ-clause-answer c = turned-differing _ _ _ c.lengths_differ.ensures c.if-lengths_differ.true

pub returns-then-lengths_differ-clause-exactly : goal.returns-then-lengths_differ-clause-exactly
returns-then-lengths_differ-clause-exactly c = answers-exactly _ _ _ (turned-differing _ _ _ c.lengths_differ.ensures c.if-lengths_differ.true)

pub invariant_of-numbers : goal.invariant_of-numbers
invariant_of-numbers c = record { sizes = turned-sizes _ _ _ c.lengths_differ.ensures c.if-lengths_differ.false; narrow = λ e. omega (arith, c.type_inv.sequences e) }

pub turn_numbers-requires : goal.turn_numbers-requires
turn_numbers-requires c = turned-room c.args.polygons.now c.args.sequences.now _ c.lengths_differ.ensures c.if-lengths_differ.false

pub returns-clause-answer : goal.returns-clause-answer
returns-clause-answer c = c.turn_numbers.ensures.answer ∙ turned-numbers _ _ _ c.lengths_differ.ensures c.if-lengths_differ.false

pub returns-clause-exactly : goal.returns-clause-exactly
returns-clause-exactly c = answers-exactly _ _ _ (c.turn_numbers.ensures.answer ∙ turned-numbers _ _ _ c.lengths_differ.ensures c.if-lengths_differ.false)
