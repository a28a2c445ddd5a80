-- Which tops are apart, and the numbers of places: as the sweep on slices asks for them, by points with films, as the drawing has them, and as the checks left them.
use mathlib.Core.Path.{◌≡◌, refl, sym, ap, ◌∙◌}
use mathlib.Core.Bool.{Bool, true, false, cond}
use mathlib.Core.List.{List}
use Prim.Native.Nat.{ℕ, ◌<◌}
use lib.Dec.{ltb}
use lib.IntN.{ℤ}
use borrow.Author.Tests.{lt-ltb}
use Rattle.laws.proofs.Deciding.{neither-true}
use Rattle.laws.proofs.Tests.{and-true}
use Rattle.sheet.specs.Points.{is_below}
use Rattle.sheet.specs.Edges.{edge_at, edges_in, drawing_of}
use Rattle.sheet.specs.Corners.{apart}
use Rattle.sheet.specs.Answers.{Call, tangled, not_alternating}
use Rattle.sheet.proofs.Places.{place-below}
use Rattle.sheet.specs.Rank.{place_on}
use Rattle.checks.specs.Corners.{top_place, parts, Marked}
use Rattle.checks.specs.Numbers.{place_number, Numbered}
use Rattle.checks.proofs.NumbersRead.{tail-number, head-number}
use Rattle.checks.proofs.Passed.{AllPassed}
use Rattle.steps.specs.Swept.{drawn_edge}
use Rattle.rows.specs.Layout.{on_film, film_places}
use Rattle.sweep.specs.Slices.{apart_at, list_edges, TopsMarked, PlacesNumbered}

module _ {c : Call} (all : AllPassed c) (e : ℕ) (l : e < edges_in c.list) where
  -- the point of the top is the place of the top
  pub top_apart : (list_edges c.list e).apart ≡ (drawn_edge (drawing_of c.list) e).apart
  unfolding apart_at film_places drawing_of
  top_apart =
      same (is_below (edge_at c.list e).tail (edge_at c.list e).head)
      ∙ ap (λ (t : Bool). apart (drawing_of c.list) (cond t ((drawing_of c.list).head e) ((drawing_of c.list).tail e))) (place-below _ _ (edge_at c.list e).tail (edge_at c.list e).head (all.films_in_range e l) (all.films_in_range e l) (all.tails_in_range e l) (all.heads_in_range e l))
    where
      same : (t : Bool) → apart_at c.list (cond t (on_film (edge_at c.list e).film (edge_at c.list e).head) (on_film (edge_at c.list e).film (edge_at c.list e).tail)) ≡ apart (drawing_of c.list) (cond t ((drawing_of c.list).head e) ((drawing_of c.list).tail e))
      same true = refl
      same false = refl

  untangled : tangled (drawing_of c.list) (top_place (drawing_of c.list) e) ≡ false
  unfolding not_alternating
  untangled = by (ltb ((drawing_of c.list).height ((drawing_of c.list).tail e)) ((drawing_of c.list).height ((drawing_of c.list).head e)))
    where
      by : (t : Bool) → tangled (drawing_of c.list) (cond t ((drawing_of c.list).head e) ((drawing_of c.list).tail e)) ≡ false
      by true = (neither-true (tangled (drawing_of c.list) ((drawing_of c.list).tail e)) _ (all.alternating e l)).1
      by false = (neither-true _ (tangled (drawing_of c.list) ((drawing_of c.list).head e)) (all.alternating e l)).0

  mark-is : parts (drawing_of c.list) (top_place (drawing_of c.list) e) ≡ (drawn_edge (drawing_of c.list) e).apart
  unfolding parts
  mark-is = rw untangled (and-true (apart (drawing_of c.list) (top_place (drawing_of c.list) e)))

pub tops-marked : {c : Call} {marks : List Bool} → AllPassed c → Marked c.list marks → TopsMarked c.list (edges_in c.list) marks
tops-marked {c} all M e l = M.mark e ∙ rw (lt-ltb e (edges_in c.list) l) (mark-is all e l ∙ sym (top_apart all e l))

-- the numbers that the checks leave are those of the places that the sweep asks for
pub places-numbered : {s : List ℤ} {numbers : List ℕ} → Numbered s numbers → PlacesNumbered s (edges_in s) numbers
places-numbered {s} N = record {
  number = λ p. place_number N.words (edges_in s) (place_on p.film p.point);
  tails = λ i l. tail-number N i l;
  heads = λ i l. head-number N i l;
}
