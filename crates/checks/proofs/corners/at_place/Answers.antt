-- `checks::corners::at_place` meets its contract: a place that has not four ends is neither apart nor one that 17 is given for.
use mathlib.Core.Path.{◌∙◌}
use Prim.Native.Nat.{◌-◌}
use borrow.Author.Tests.{ne_eqb}
use Rattle.ends.specs.Ends.{place_in}
use Rattle.checks.proofs.AtCorners.{four_is, two-parts}
use Rattle.checks.proofs.CornersMarked.{nothing-more}
use Rattle.checks.proofs.corners.at_place.Goals as goal

pub returns-else-to-from-eq4 : goal.returns-else-to-from-eq4
returns-else-to-from-eq4 c = let none = two-parts c.args.edges.now (place_in c.args.words.now c.args.from) (four_is c.requires.place.0 c.requires.place.1 ∙ ne_eqb (c.args.to - c.args.from) 4 c.if-to-from-eq4.false) in
    nothing-more c.requires.place.0 c.requires.place.1 none.0 none.1 c.requires.found
