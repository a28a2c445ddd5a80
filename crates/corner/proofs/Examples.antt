-- What the definitions say of corners that one can draw, computed: the paper's two pixels, corners that do not alternate, the eight winds, level edges
-- and the ends of the range.
use mathlib.Core.Path.{◌≡◌, refl}
use mathlib.Core.Bool.{true, false, ◌&&◌}
use lib.IntN.{ℤ, pos, negsuc}
use Rattle.sheet.specs.declared.Point.{Point}
use Rattle.sheet.specs.Kinds.{arriving, leaving, below, above}
use Rattle.sheet.specs.Turning.{minus, plus, sign, Direction, towards, cross, turn, same_way, sooner}
use Rattle.sheet.specs.Corners.{Corner, two_in_one, leaving_first, alternate, lower_apart}
use Rattle.corner.proofs.Sides.{side}

abbrev point : ℤ → ℤ → Point
point x y = record { x = x; y = y }

abbrev way : ℤ → ℤ → Direction
way x y = record { right = x; up = y }

-- 02 M-104: the pixels with corners (0,1), (1,2) and (1,0), (2,1) touch at (1,1). The edges there go from (0,1) to (1,1) to (1,2), and from (2,1) to
-- (1,1) to (1,0).
abbrev pixels : Corner
pixels arriving below = towards (point (pos 1) (pos 1)) (point (pos 0) (pos 1))
pixels leaving below = towards (point (pos 1) (pos 1)) (point (pos 1) (pos 0))
pixels arriving above = towards (point (pos 1) (pos 1)) (point (pos 2) (pos 1))
pixels leaving above = towards (point (pos 1) (pos 1)) (point (pos 1) (pos 2))

pixels-alternate : alternate pixels ≡ true
unfolding alternate two_in_one leaving_first same_way sooner turn cross sign towards
pixels-alternate = refl

-- each keeps to its own pixel: the lower arriving edge goes on above, the upper one below
pixels-apart : lower_apart pixels ≡ true
unfolding lower_apart sooner turn cross sign towards
pixels-apart = refl

upper-goes-down : sooner (pixels arriving above) (pixels leaving below) (pixels leaving above) ≡ true
unfolding sooner turn cross sign towards
upper-goes-down = refl

-- the pixels with corners (0,0), (1,1) and (1,1), (2,2): one lies below (1,1) and one above, and each arriving edge goes on on its own side
abbrev stacked : Corner
stacked arriving below = towards (point (pos 1) (pos 1)) (point (pos 1) (pos 0))
stacked leaving below = towards (point (pos 1) (pos 1)) (point (pos 0) (pos 1))
stacked arriving above = towards (point (pos 1) (pos 1)) (point (pos 1) (pos 2))
stacked leaving above = towards (point (pos 1) (pos 1)) (point (pos 2) (pos 1))

stacked-alternate : alternate stacked ≡ true
unfolding alternate two_in_one leaving_first same_way sooner turn cross sign towards
stacked-alternate = refl

stacked-together : lower_apart stacked ≡ false
unfolding lower_apart sooner turn cross sign towards
stacked-together = refl

-- arriving from the left and from above, leaving down and to the right: the arriving edges are neighbours, so the four do not alternate
abbrev beside : Corner
beside arriving below = way (negsuc 0) (pos 0)
beside leaving below = way (pos 0) (negsuc 0)
beside arriving above = way (pos 0) (pos 1)
beside leaving above = way (pos 1) (pos 0)

beside-does-not : alternate beside ≡ false
unfolding alternate two_in_one leaving_first same_way sooner turn cross sign
beside-does-not = refl

-- two in one direction, one twice as long as the other
abbrev overlapping : Corner
overlapping arriving below = way (negsuc 0) (negsuc 1)
overlapping leaving below = way (negsuc 1) (negsuc 3)
overlapping arriving above = way (pos 1) (pos 0)
overlapping leaving above = way (pos 0) (pos 1)

overlapping-in-one : two_in_one overlapping ≡ true
unfolding two_in_one same_way turn cross sign
overlapping-in-one = refl

overlapping-does-not : alternate overlapping ≡ false
unfolding alternate two_in_one leaving_first same_way sooner turn cross sign
overlapping-does-not = refl

-- turning clockwise from north: north-east, east, south-east, south, south-west, west, north-west
winds :
    (sooner (way (pos 0) (pos 1)) (way (pos 1) (pos 1)) (way (pos 1) (pos 0))
    && (sooner (way (pos 0) (pos 1)) (way (pos 1) (pos 0)) (way (pos 1) (negsuc 0))
    && (sooner (way (pos 0) (pos 1)) (way (pos 1) (negsuc 0)) (way (pos 0) (negsuc 0))
    && (sooner (way (pos 0) (pos 1)) (way (pos 0) (negsuc 0)) (way (negsuc 0) (negsuc 0))
    && (sooner (way (pos 0) (pos 1)) (way (negsuc 0) (negsuc 0)) (way (negsuc 0) (pos 0))
    && sooner (way (pos 0) (pos 1)) (way (negsuc 0) (pos 0)) (way (negsuc 0) (pos 1))))))) ≡ true
unfolding sooner turn cross sign
winds = refl

-- a level edge to the left lies below, one to the right above
level-left : side (way (negsuc 4) (pos 0)) ≡ minus
unfolding side sign
level-left = refl

level-right : side (way (pos 5) (pos 0)) ≡ plus
unfolding side sign
level-right = refl

-- from one corner of the range to the other, and to the point beside that: the smallest turn between the longest directions
least : Point
least = point (negsuc 999999) (negsuc 999999)

across-the-range : turn (towards least (point (pos 1000000) (pos 1000000))) (towards least (point (pos 1000000) (pos 999999))) ≡ minus
unfolding turn cross sign towards least
across-the-range = refl
