-- 5, 16 and 6 said of one edge, and what 7 compares its top with.
use Rattle.std.specs.Prelude.{Bool, not, ◌&&◌, ◌||◌, List, ℕ, zero, suc, ℤ}
use Rattle.sheet.specs.declared.Edge.{Edge}
use Rattle.sheet.specs.Points.{in_range, is_film, is_same, top_of}
use Rattle.sheet.specs.Rank.{rank}
use Rattle.sheet.specs.Edges.{edge_at}

unfoldable pub end_past_range : Edge → Bool
end_past_range e = not (in_range e.tail && in_range e.head)

abbrev pub film_past : Edge → Bool
film_past e = not (is_film e.film)

unfoldable pub limits_passed : Edge → Bool
limits_passed e = end_past_range e || film_past e

abbrev pub ends_equal : Edge → Bool
ends_equal e = is_same e.tail e.head

unfoldable pub fault_alone : Edge → Bool
fault_alone e = limits_passed e || ends_equal e

-- the rank of the top of the edge before; 0, which no rank is lower than, before the first edge
unfoldable pub top_before : List ℤ → ℕ → ℕ
top_before s zero = 0
top_before s (suc e) = rank (top_of (edge_at s e))
