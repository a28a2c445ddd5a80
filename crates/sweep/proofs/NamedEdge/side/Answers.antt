-- `sweep::NamedEdge::side` meets its contract. By the order of the two ends.
use mathlib.Core.Path.{sym, ◌∙◌}
use Rattle.rows.specs.Layout.{film_places}
use Rattle.sweep.proofs.NamedEdge.side.Goals as goal

pub returns-then-below : goal.returns-then-below
unfolding film_places
returns-then-below c = rw (sym c.below.ensures ∙ c.if-below.true)

pub returns-else-below : goal.returns-else-below
unfolding film_places
returns-else-below c = rw (sym c.below.ensures ∙ c.if-below.false)
