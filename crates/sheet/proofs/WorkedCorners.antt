-- The joining rule at points with four edges of one film, worked on sheets: which edge is met first, and which points are apart.
use mathlib.Core.Path.{◌≡◌, refl}
use mathlib.Core.Bool.{Bool, true, false, not, ◌&&◌}
use mathlib.Core.List.{List, map}
use Prim.Native.Nat.{ℕ}
use lib.IntN.{pos}
use Rattle.sheet.specs.Rank.{place_on}
use Rattle.sheet.specs.Turning.{sooner}
use Rattle.sheet.specs.Edges.{drawing_of}
use Rattle.sheet.specs.Corners.{apart}
use Rattle.sheet.proofs.Drawn.{two_edges, touching, two_pixels, crossing}
use Rattle.sheet.proofs.Computing.{sheets_computed}

apart_in : List ℕ → ℕ → ℕ → ℕ → Bool
apart_in list film x y = apart (drawing_of (map pos list)) (place_on (pos film) (record { x = pos x; y = pos y }))

-- turning clockwise from the way that edge e came, f is met before g
met_before : List ℕ → ℕ → ℕ → ℕ → Bool
met_before list e f g = sooner ((drawing_of (map pos list)).back e) ((drawing_of (map pos list)).ahead f) ((drawing_of (map pos list)).ahead g)

record AllWorked : Type 0 where
  -- 02's pixels: each keeps to its own corner, so the edge from (0,1) goes on to (1,2) and the one from (2,1) to (1,0)
  pixels : (met_before two_pixels 1 6 2 && (met_before two_pixels 4 2 6 && apart_in two_pixels 0 1 1)) ≡ true
  -- 01's touching sheet: there the outlines keep below and above the point
  touching_sheet : (met_before touching 0 1 2 && (met_before touching 6 2 1 && not (apart_in touching 0 1 6))) ≡ true
  -- two edges of a film at a point are never apart, whatever their turn: there and back, and two films that cross
  two_edges_lem : apart_in two_edges 0 1 1 ≡ false
  two_films : apart_in (crossing 1) 0 1 1 ≡ false

all-worked : AllWorked
unfolding
    apart_in
    met_before
    sheets_computed
all-worked = record { pixels = refl; touching_sheet = refl; two_edges_lem = refl; two_films = refl }
