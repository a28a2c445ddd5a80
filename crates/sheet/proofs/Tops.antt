-- Top and bottom are said of points (`top_of`, `bottom_of`) and, for the sweep, of heights (`top_height`, `bottom_height`). They are the same: in the
-- drawing of a list an edge's top height is the rank of its higher end, and its bottom height the rank of its lower one. It holds of an edge whose
-- ends are in the range, where ranks are ordered as points are.
use mathlib.Core.Path.{◌≡◌, refl, sym, ◌∙◌}
use mathlib.Core.Bool.{Bool, true, false}
use mathlib.Core.List.{List}
use Prim.Native.Nat.{ℕ, ◌/◌, ◌≤◌, ◌<◌}
use native.Mathlib.Omega.{arith}
use lib.IntN.{ℤ}
use borrow.Author.Tests.{ltb-true, ltb-false}
use Rattle.sheet.specs.declared.Point.{Point}
use Rattle.sheet.specs.Points.{in_range, is_film, is_below, is_up, top_of, bottom_of}
use Rattle.sheet.specs.Rank.{rank, place_on}
use Rattle.sheet.specs.Edges.{edge_at, drawing_of, top_height, bottom_height}
use Rattle.sheet.specs.Amounts.{films}
use Rattle.sheet.proofs.Ranks.{rank_below}
use Rattle.sheet.proofs.Places.{height-of}

pub record EndHeights (s : List ℤ) (e : ℕ) : Type 0 where
  pub top : rank (top_of (edge_at s e)) ≡ top_height (drawing_of s) e
  pub bottom : rank (bottom_of (edge_at s e)) ≡ bottom_height (drawing_of s) e

pub end-heights : (s : List ℤ) (e : ℕ) → in_range (edge_at s e).tail ≡ true → in_range (edge_at s e).head ≡ true → is_film (edge_at s e).film ≡ true → EndHeights s e
unfolding top_of bottom_of is_up drawing_of
end-heights s e tail-in head_in film-in = by (is_below tail head) refl
  where
    tail : Point
    tail = (edge_at s e).tail

    head : Point
    head = (edge_at s e).head

    tail-height : place_on (edge_at s e).film tail / films ≡ rank tail
    tail-height = height-of (edge_at s e).film tail film-in

    head-height : place_on (edge_at s e).film head / films ≡ rank head
    head-height = height-of (edge_at s e).film head film-in

    by : (u : Bool) → is_below tail head ≡ u → EndHeights s e
    by true u =
        let l : rank tail < rank head = ltb-true _ _ (sym (rank_below tail head tail-in head_in) ∙ u) in
        record { top = rw u (omega (arith, tail-height, head-height)); bottom = rw u (omega (arith, tail-height, head-height)) }
    by false u =
        let l : rank head ≤ rank tail = ltb-false _ _ (sym (rank_below tail head tail-in head_in) ∙ u) in
        record { top = rw u (omega (arith, tail-height, head-height)); bottom = rw u (omega (arith, tail-height, head-height)) }
