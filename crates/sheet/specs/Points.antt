-- Points and edges: the ranges, the order of points, an edge's two ends. Each is a test or a function that computes, and the functions of the point
-- and edge types are proved equal to it. "01 Points 2.1" in a comment names the first sentence of the second item under "Points, edges, joins".
use Rattle.std.specs.Prelude.{Bool, false, cond, ◌&&◌, eqb, ℤ, pos, negsuc}
use Rattle.std.specs.Int.Signed.{lt_z, le_z}
use Rattle.sheet.specs.declared.Point.{Point}
use Rattle.sheet.specs.declared.Edge.{Edge}
use Rattle.sheet.specs.Amounts.{films}

unfoldable pub same_z : ℤ → ℤ → Bool
same_z (pos a) (pos b) = eqb a b
same_z (pos a) (negsuc b) = false
same_z (negsuc a) (pos b) = false
same_z (negsuc a) (negsuc b) = eqb a b

-- 01 Points 2.1: y decides, x where y is equal
unfoldable pub is_below : Point → Point → Bool
is_below p q = cond (same_z p.y q.y) (lt_z p.x q.x) (lt_z p.y q.y)

unfoldable pub is_same : Point → Point → Bool
is_same p q = same_z p.y q.y && same_z p.x q.x

-- 01 Points 1.2: the range of a coordinate
unfoldable pub within : ℤ → Bool
within z = le_z (negsuc 999999) z && le_z z (pos 1000000)

unfoldable pub in_range : Point → Bool
in_range p = within p.x && within p.y

-- 02 M-100: the range of a film
unfoldable pub is_film : ℤ → Bool
is_film z = le_z (pos 0) z && lt_z z (pos films)

-- 01 Points 3.1: an up edge has its head higher than its tail, any other is a down edge
unfoldable pub is_up : Edge → Bool
is_up e = is_below e.tail e.head

-- 01 Points 3.2: the higher end, and the lower one
unfoldable pub top_of : Edge → Point
top_of e = cond (is_up e) e.head e.tail

unfoldable pub bottom_of : Edge → Point
bottom_of e = cond (is_up e) e.tail e.head
