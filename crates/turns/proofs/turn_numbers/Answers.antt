-- `turns::turn_numbers` meets its contract: 12, 13, 14, and what is accepted, each by its law.
use Rattle.std.proofs.Common.{refl, arith}
use mathlib.Core.Path.{sym, ◌∙◌}
use Rattle.sheet.specs.TurnList.{number_lists}
use Rattle.turns.proofs.Answering.{numbers-without, numbers-again, numbers-gap, numbers-accepted}
use Rattle.turns.proofs.Accepting.{ordered-turns, last-largest}
use Rattle.turns.proofs.Keys.{all-rising}
use Rattle.turns.proofs.turn_numbers.Goals as goal

pub invariant_of-keys : goal.invariant_of-keys
unfolding number_lists
invariant_of-keys c = record { rising = all-rising c.order_keys.ensures.keyed c.order_keys.ensures.long }

pub returns-in-Some-clause-answer : goal.returns-in-Some-clause-answer
returns-in-Some-clause-answer c = numbers-without _ _ c.in-Some.ensures

pub returns-in-Some-first_again-clause-answer : goal.returns-in-Some-first_again-clause-answer
returns-in-Some-first_again-clause-answer c = numbers-again _ _ (c.in_default.ensures) c.in-Some-first_again.ensures.again

pub returns-in-Some-first_gap-clause-answer : goal.returns-in-Some-first_gap-clause-answer
returns-in-Some-first_gap-clause-answer c = numbers-gap _ _ (c.in_default.ensures) (c.in_default-first_again.ensures.again) c.in-Some-first_gap.ensures

pub returns-clause-answer : goal.returns-clause-answer
unfolding number_lists
returns-clause-answer c =
    numbers-accepted _ _ (c.in_default.ensures) (c.in_default-first_again.ensures.again) (c.in_default-first_gap.ensures) (c.last_polygon.ensures ∙ rw c.order_keys.ensures.long (last-largest c.order_keys.ensures.keyed))

pub returns-clause-turns : goal.returns-clause-turns
unfolding number_lists
returns-clause-turns c =
    let all = ordered-turns c.order_keys.ensures.keyed (c.in_default-first_again.ensures.order refl) c.first_again.new.order (omega arith) (λ p l. refl) in
    rw (sym c.copy_from_slice.ensures.after) at all
