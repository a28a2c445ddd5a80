-- 02 M-104: four edges of one film at a point, by their directions from it.
use Rattle.std.specs.Prelude.{Bool, not, ◌&&◌, ◌||◌, ℕ, ◌+◌, eqb}
use Rattle.laws.specs.Counting.{first}
use Rattle.sheet.specs.Turning.{Direction, same_way, sooner}
use Rattle.sheet.specs.Edges.{Drawing}
use Rattle.sheet.specs.Kinds.{Way, arriving, leaving, From, below, above, other_from, same_from, end_of, comes, number_at}

-- an edge's direction from the place: on along a leaving edge, back along an arriving one, the way it came
abbrev pub along : Drawing → Way → ℕ → Direction
along sh arriving e = sh.back e
along sh leaving e = sh.ahead e

-- four edges meet at the place
unfoldable pub four : Drawing → ℕ → Bool
four sh p = eqb (number_at sh arriving p + number_at sh leaving p) 4

-- the edge of a kind at a place: the first one, and with 8 passed the only one
unfoldable pub of_kind : Drawing → ℕ → Way → From → ℕ
of_kind sh p w s = first (λ e. eqb (end_of sh w e) p && same_from (comes sh w e) s) sh.edges

-- the directions of four edges, with 8 and 9 passed one of each kind
abbrev pub Corner : Type 0
Corner = Way → From → Direction

unfoldable pub corner_at : Drawing → ℕ → Corner
corner_at sh p w s = along sh w (of_kind sh p w s)

unfoldable pub two_in_one : Corner → Bool
two_in_one k =
    same_way (k arriving below) (k leaving below) || (same_way (k arriving below) (k arriving above) || (same_way (k arriving below) (k leaving above)
    || (same_way (k leaving below) (k arriving above) || (same_way (k leaving below) (k leaving above) || same_way (k arriving above) (k leaving above)))))

-- turning clockwise from an arriving edge, a leaving one is met before the other arriving one
unfoldable pub leaving_first : Corner → From → Bool
leaving_first k s =
    sooner (k arriving s) (k leaving below) (k arriving (other_from s)) || sooner (k arriving s) (k leaving above) (k arriving (other_from s))

-- arriving and leaving alternate round the point, and no two are in one direction
unfoldable pub alternate : Corner → Bool
alternate k = not (two_in_one k) && (leaving_first k below && leaving_first k above)

-- the two lower edges do not join each other: turning clockwise from the way the arriving one came, the upper leaving edge is met before the lower one
unfoldable pub lower_apart : Corner → Bool
lower_apart k = sooner (k arriving below) (k leaving above) (k leaving below)

unfoldable pub apart : Drawing → ℕ → Bool
apart sh p = four sh p && lower_apart (corner_at sh p)
