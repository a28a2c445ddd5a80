-- `turning::first_different` meets its contract: the two lists are compared position by position.
use Rattle.std.proofs.Common.{rules}
use Rattle.laws.proofs.Found.{first-found}
use Rattle.cutter.specs.Instructed.{turn_differs}
use Rattle.cutter.proofs.turning.first_different.Goals as goal

pub returns : goal.returns
unfolding turn_differs
returns c = first-found (turn_differs c.args.turns.now c.args.right.now) _ _ _ _ c.find.ensures.ran (λ k b q l. search rules)
