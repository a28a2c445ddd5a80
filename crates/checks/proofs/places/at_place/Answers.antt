-- `checks::places::at_place` meets its contract: what is found at the place is put together with what was found before.
use mathlib.Core.Path.{sym, ◌∙◌}
use borrow.Author.Rules.{rules}
use Rattle.checks.specs.Places.{repeats_in}
use Rattle.checks.proofs.Visiting.{found-on, found-more}
use Rattle.checks.proofs.places.at_place.Goals as goal

pub returns-then-passed_through : goal.returns-then-passed_through
returns-then-passed_through c = found-on c.requires.place.1 (sym c.passed_through.ensures ∙ c.if-passed_through.true) c.requires.found

pub returns : goal.returns
returns c = rw (c.lower.ensures, c.lower-2.ensures) (found-more c.requires.place.1 c.requires.found (c.least_edge-repeated.ensures (repeats_in c.args.words.now) (λ k r l h t. search rules)) c.least_uneven-uneven.ensures)
