-- `Rising::stands` meets its contract: the first key that is not below low tells.
use native.Mathlib.Omega.{arith}
use mathlib.Core.Path.{◌∙◌}
use borrow.Author.Tests.{le-ltb}
use Rattle.turns.proofs.Places.{none_between, some-between}
use Rattle.turns.proofs.rising.Rising.stands.Goals as goal

pub returns-then-place-self : goal.returns-then-place-self
returns-then-place-self c = rw c.place_from-place.ensures (some-between c.args.self.now.rising _ _ (omega (arith, c.place_from-place.ensures)))

pub returns-else-place-self : goal.returns-else-place-self
returns-else-place-self c = le-ltb _ _ c.if-place-self.false ∙ none_between c.args.self.now.rising _ _ (omega (arith, c.place_from-place.ensures))
