-- The two sides of a point, below it and above it, and corners whose edges come from the sides that they are said to come from.
use mathlib.Core.Path.{◌≡◌}
use Rattle.sheet.specs.Turning.{Sign, minus, nought, plus, sign, Direction}
use Rattle.sheet.specs.Kinds.{Way, From, below, above}
use Rattle.sheet.specs.Corners.{Corner}

-- 01 Points 2.1: y decides, x where y is equal
abbrev pub first_of : Sign → Sign → Sign
first_of minus t = minus
first_of nought t = t
first_of plus t = plus

-- below the point is minus, above it plus; nought only where there is no way to go
unfoldable pub side : Direction → Sign
side d = first_of (sign d.up) (sign d.right)

abbrev pub side_of : From → Sign
side_of below = minus
side_of above = plus

-- each edge comes from its side
pub record Sided (k : Corner) : Type 0 where
  pub sided : (w : Way) (s : From) → side (k w s) ≡ side_of s
