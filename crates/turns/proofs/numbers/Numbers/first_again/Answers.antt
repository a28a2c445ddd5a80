-- `Numbers::first_again` meets its contract. The loop's invariant is `Marking`.
use Rattle.std.proofs.Common.{arith}
use Rattle.sheet.specs.TurnList.{number_lists}
use Rattle.turns.proofs.Marking.{marking-none, marking-found, marking-more, marking-all, marking-ordered}
use Rattle.turns.proofs.numbers.Numbers.first_again.Goals as goal
use Rattle.turns.proofs.numbers.Numbers.first_again.Goals.{else-earlier-later-via-then-earlier-later+else-key, else-earlier-later-via-else-earlier-later}

pub loop-later-init : goal.loop-later-init
unfolding number_lists
loop-later-init c = marking-none _ _ _ (omega arith)

pub returns-then-key-clause-again : goal.returns-then-key-clause-again
unfolding number_lists
returns-then-key-clause-again c = (c.loop-later-test.true, marking-found c.requires.keys c.loop-later.invariant c.loop-later-test.true c.place-place.ensures.place c.if-earlier-later.true cc)

pub loop-later-preserved : goal.loop-later-preserved
unfolding number_lists
loop-later-preserved c = marking-more c.requires.keys c.loop-later.invariant c.loop-later-test.true c.place-place.ensures.place
    (λ before same. elim c.else-earlier-later.branch [
      | else-earlier-later-via-then-earlier-later+else-key w ↦ w.if-key.false cc
      | else-earlier-later-via-else-earlier-later w ↦ omega (arith, w.if-earlier-later.false)
    ])

pub returns-clause-again : goal.returns-clause-again
unfolding number_lists
returns-clause-again c = marking-all c.requires.keys c.loop-later.invariant c.loop-later-test.false

pub returns-clause-order : goal.returns-clause-order
unfolding number_lists
returns-clause-order c = λ _. marking-ordered c.requires.keys c.loop-later.invariant c.loop-later-test.false
