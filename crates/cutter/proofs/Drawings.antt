-- What instructions ask of the outlines that they are made for: points in range, and a way that leads back to its start. Both follow the list of outlines
-- and, in an outline, the list of heads.
use mathlib.Core.Path.{◌≡◌}
use mathlib.Core.Bool.{true}
use mathlib.Core.List.{List, [], ◌∷◌}
use Rattle.sheet.specs.declared.Point.{Point}
use Rattle.sheet.specs.Points.{in_range}
use Rattle.cutter.specs.Programme.{Outline}

abbrev pub AllInRange : List Point → Type 0
AllInRange [] = Unit
AllInRange (p ∷ ps) = (in_range p ≡ true) × AllInRange ps

abbrev pub Drawn : List Outline → Type 0
Drawn [] = Unit
Drawn (o ∷ os) = (in_range o.start ≡ true) × AllInRange o.heads × Drawn os

-- the way from p along further heads ends at q
abbrev pub Ends : Point → Point → List Point → Type 0
Ends q p [] = p ≡ q
Ends q p (r ∷ rs) = Ends q r rs

-- there is a head, and the last one is the start
abbrev pub ClosedBy : Point → List Point → Type 0
ClosedBy q [] = ⊥
ClosedBy q (p ∷ ps) = Ends q p ps

abbrev pub AllClosed : List Outline → Type 0
AllClosed [] = Unit
AllClosed (o ∷ os) = ClosedBy o.start o.heads × AllClosed os
