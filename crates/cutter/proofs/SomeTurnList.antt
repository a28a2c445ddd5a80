-- Every numbering that is accepted has a turn list. An edge's position in it is the number of edges that come before it: no two edges have one position,
-- since of two edges one comes before the other, and so every position has its edge.
use Rattle.std.specs.Prelude.{Ok}
use mathlib.Core.Path.{◌≡◌, ap, ◌∙◌}
use mathlib.Core.Bool.{Bool, true, false, ◌&&◌, ◌||◌}
use mathlib.Core.List.{List}
use mathlib.Core.Logic.{◌⊎◌, inl, inr, ⊎_elim}
use Prim.Native.Nat.{ℕ, ◌<◌}
use native.Mathlib.Omega.{arith}
use lib.Dec.{eqb, ltb}
use lib.ListN.{length}
use borrow.Author.Tests.{lt-ltb, le-ltb, ltb-true, eq-eqb, eqb-true}
use Rattle.laws.specs.Counting.{count, first}
use Rattle.laws.specs.Listing.{list_of}
use Rattle.laws.proofs.Deciding.{lt-or-le, one-true, both_true, not-both, true-or-false}
use Rattle.laws.proofs.Counting.{without, without-there, count-implies, count-without, count_less}
use Rattle.laws.proofs.First.{first_holds, first-least}
use Rattle.laws.proofs.Pigeonhole.{reached}
use Rattle.laws.proofs.Listing.{length-list_of, get_or-list_of}
use Rattle.sheet.specs.TurnList.{NumberLists, number_lists, Before, TurnList, turned}
use Rattle.sheet.proofs.ExactlyAccepted.{accepts-exactly}
use Rattle.turns.proofs.Neighbours.{before-both}

-- one edge comes before another, as a test
before? : NumberLists → ℕ → ℕ → Bool
before? v e f = ltb (v.polygon e) (v.polygon f) || (eqb (v.polygon e) (v.polygon f) && ltb (v.sequence e) (v.sequence f))

-- how many edges come before an edge
position : NumberLists → ℕ → ℕ
position v e = count (λ f. before? v f e) v.edges

-- the edge of a position
edge_of : NumberLists → ℕ → ℕ
edge_of v i = first (λ e. eqb (position v e) i) v.edges

pub some_turn_list : List ℕ → List ℕ → List ℕ
some_turn_list polygons sequences = list_of (edge_of (number_lists polygons sequences)) (length polygons)

module _ (v : NumberLists) where
  passes : (e f : ℕ) → Before v e f → before? v e f ≡ true
  unfolding before?
  passes e f (inl h) = rw (lt-ltb _ _ h)
  passes e f (inr h) = rw (le-ltb (v.polygon e) (v.polygon f) (omega (arith, h.0)), eq-eqb _ _ h.0, lt-ltb _ _ h.1)

  passed : (e f : ℕ) → before? v e f ≡ true → Before v e f
  unfolding before?
  passed e f h = ⊎_elim
      (λ a. inl (ltb-true _ _ a))
      (λ a. let w = both_true (eqb (v.polygon e) (v.polygon f)) _ a in inr (eqb-true _ _ w.0, ltb-true _ _ w.1))
      (one-true (ltb (v.polygon e) (v.polygon f)) _ h)

  not_itself : (e : ℕ) → before? v e e ≡ false
  not_itself e = ⊎_elim (λ t. ⊎_elim (λ h. absurd (omega (arith, h))) (λ h. absurd (omega (arith, h.1))) (passed e e t)) (λ t. t) (true-or-false (before? v e e))

  position-below : (e : ℕ) → e < v.edges → position v e < v.edges
  unfolding position
  position-below e l = count_less (λ f. before? v f e) v.edges e l (not_itself e)

  -- the later edge has all that come before the earlier, and the earlier itself
  position-grows : (e f : ℕ) → e < v.edges → Before v e f → position v e < position v f
  unfolding position
  position-grows e f l b = omega (arith, count-without (λ g. before? v g f) e v.edges l (passes e f b), count-implies (λ g. before? v g e) (without (λ g. before? v g f) e) v.edges others)
    where
      others : (g : ℕ) → g < v.edges → before? v g e ≡ true → without (λ g. before? v g f) e g ≡ true
      others g m t =
          without-there (λ g. before? v g f) e g (λ q. not-both t (ap (λ (k : ℕ). before? v k e) q ∙ not_itself e))
          ∙ passes g f (before-both v g e f (passed g e t) b)

  module _ (once : (e f : ℕ) → e < v.edges → f < v.edges → v.polygon e ≡ v.polygon f → v.sequence e ≡ v.sequence f → e ≡ f) where
    either : (e f : ℕ) → e < v.edges → f < v.edges → Before v e f ⊎ (Before v f e ⊎ (e ≡ f))
    either e f l m = ⊎_elim
        (λ a. inl (inl a))
        (λ a. ⊎_elim
        (λ b. inr (inl (inl b)))
        (λ b. ⊎_elim
        (λ d. inl (inr (omega arith, d)))
        (λ d. ⊎_elim (λ h. inr (inl (inr (omega arith, h)))) (λ h. inr (inr (once e f l m (omega arith) (omega arith)))) (lt-or-le (v.sequence f) (v.sequence e)))
        (lt-or-le (v.sequence e) (v.sequence f)))
        (lt-or-le (v.polygon f) (v.polygon e)))
        (lt-or-le (v.polygon e) (v.polygon f))

    own-position : (e f : ℕ) → e < v.edges → f < v.edges → position v e ≡ position v f → e ≡ f
    own-position e f l m q = ⊎_elim
        (λ b. absurd (omega (arith, q, position-grows e f l b)))
        (⊎_elim (λ b. absurd (omega (arith, q, position-grows f e m b))) (λ h. h))
        (either e f l m)

    module _ (i : ℕ) (l : i < v.edges) where
      edge-below : edge_of v i < v.edges
      unfolding edge_of
      edge-below =
          let w = reached (position v) v.edges position-below own-position i l in
          ⊎_elim
          (λ h. h)
          (λ h. absurd (not-both (eq-eqb _ _ w.2) (first-least (λ e. eqb (position v e) i) v.edges w.0 (omega (arith, w.1, h)))))
          (lt-or-le (first (λ e. eqb (position v e) i) v.edges) v.edges)

      edge-there : position v (edge_of v i) ≡ i
      unfolding edge_of
      edge-there = eqb-true _ _ (first_holds (λ e. eqb (position v e) i) v.edges edge-below)

    edges-in-order : (i j : ℕ) → i < j → j < v.edges → Before v (edge_of v i) (edge_of v j)
    edges-in-order i j h m =
        let l : i < v.edges = omega arith in
        let a = edge-there i l in
        let b = edge-there j m in
        ⊎_elim
        (λ t. t)
        (⊎_elim
        (λ t. absurd (omega (arith, a, b, position-grows _ _ (edge-below j m) t)))
        (λ t. absurd (omega (arith, a, b, ap (position v) t))))
        (either _ _ (edge-below i l) (edge-below j m))

pub some-turn-list : (polygons sequences : List ℕ) (turns c : ℕ) → turned polygons sequences turns ≡ Ok c → TurnList (number_lists polygons sequences) (some_turn_list polygons sequences)
unfolding some_turn_list number_lists
some-turn-list polygons sequences turns c q = record {
  size = length-list_of _ _;
  places = λ i l. rw (get_or-list_of 0 (edge_of v) (length polygons) i l) (edge-below v once i l);
  in_order = λ i j h l. rw (get_or-list_of 0 (edge_of v) (length polygons) i (omega arith), get_or-list_of 0 (edge_of v) (length polygons) j l) (edges-in-order v once i j h l);
}
  where
    v : NumberLists
    v = number_lists polygons sequences

    once : (e f : ℕ) → e < v.edges → f < v.edges → v.polygon e ≡ v.polygon f → v.sequence e ≡ v.sequence f → e ≡ f
    once = ((accepts-exactly polygons sequences turns c).0 q).numbering.no_repeat
