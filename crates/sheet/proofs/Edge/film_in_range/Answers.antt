-- `Edge::film_in_range` meets its contract: the range holds the films from 0 on.
use mathlib.Core.Path.{◌∙◌}
use lib.IntN.{pos}
use Rattle.sheet.specs.Points.{is_film}
use Rattle.sheet.proofs.Comparing.{lt-int, le-int}
use Rattle.sheet.proofs.Edge.film_in_range.Goals as goal

pub returns : goal.returns
unfolding is_film
returns c = c.contains.ensures.value ∙ rw (le-int (pos 0) c.args.self.film, lt-int c.args.self.film (pos 256))
