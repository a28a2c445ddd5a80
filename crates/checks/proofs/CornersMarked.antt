-- The walk over corners: what is found and marked after each place, and after all of them.
use mathlib.Core.Path.{◌≡◌, refl, sym, ap, ◌∙◌, subst}
use mathlib.Core.Bool.{Bool, true, false, not, cond, ◌&&◌}
use mathlib.Core.List.{List}
use mathlib.Core.Logic.{◌⊎◌, inl, inr, ⊎_elim}
use Prim.Native.Nat.{ℕ, zero, suc, ◌+◌, ◌*◌, ◌<◌, ◌≤◌}
use native.Mathlib.Omega.{arith}
use lib.Dec.{ltb}
use lib.IntN.{ℤ}
use lib.ListN.{get_or, set, length, replicate, length-set, length-replicate}
use lib.Seq.{get_or-set_same, get_or-set_other}
use borrow.Author.Tests.{lt-ltb, le-ltb, ltb-true}
use Rattle.std.specs.Prelude.{Option, None, Some}
use Rattle.laws.specs.Counting.{IsFirst}
use Rattle.laws.proofs.Deciding.{lt-or-le, eq-or-ne}
use Rattle.sheet.specs.Amounts.{most_edges}
use Rattle.sheet.specs.Points.{is_below}
use Rattle.sheet.specs.Turning.{plus, is_sign}
use Rattle.sheet.specs.Edges.{Drawing, edge_at, edges_in, drawing_of}
use Rattle.sheet.specs.Kinds.{Way, arriving, leaving, below, above, end_of, comes}
use Rattle.sheet.specs.Answers.{tangled, not_alternating}
use Rattle.corner.specs.Turns.{alike}
use Rattle.ends.specs.Ends.{place_in, edge_in}
use Rattle.checks.specs.Places.{any_end, AtPlace, Least, lower}
use Rattle.checks.specs.Corners.{top_place, parts, Marked, no_marks, SoundEnds, tangled_in, CornersSoFar}
use Rattle.checks.proofs.LeastEdge.{least-none, least_start, least-join, least_on, least-same}
use Rattle.ends.proofs.Words.{rises-to, falls-to}
use Rattle.checks.proofs.ByWords.{place-told, tangle-first}
use Rattle.checks.proofs.AtCorners.{kind_number, FourEnds, four-ends, low_turn, high_turn, tangled-is, parts_is, tangled-parts}

pub no-mark : {A : Type 0} (d : A) (m e : ℕ) → get_or (replicate m d) e d ≡ d
no-mark d zero e = refl
no-mark d (suc m) zero = refl
no-mark d (suc m) (suc e) = no-mark d m e

pub same_end_lem : {s : List ℤ} {words : List ℕ} {marks : List Bool} {n b b' : ℕ} {found : Option ℕ} → b ≡ b' → CornersSoFar s words n b found marks → CornersSoFar s words n b' found marks
same_end_lem {s} {words} {marks} {n} {found = found} q C = subst (λ (b : ℕ). CornersSoFar s words n b found marks) q C

-- at the place of its top an edge comes from below, and at no other
is_below_lem : (t : Bool) → cond t below above ≡ below → t ≡ true
is_below_lem true h = refl
is_below_lem false h = let z : ◌≡◌ {A = ℕ} 0 1 = cc in absurd (omega arith)

top-from-below : (sh : Drawing) (w : Way) (e : ℕ) → comes sh w e ≡ below → top_place sh e ≡ end_of sh w e
unfolding comes
top-from-below sh arriving e h = rw (is_below_lem (ltb (sh.height (sh.tail e)) (sh.height (sh.head e))) h)
top-from-below sh leaving e h =
    let l : sh.height (sh.head e) < sh.height (sh.tail e) = ltb-true _ _ (is_below_lem (ltb (sh.height (sh.head e)) (sh.height (sh.tail e))) h) in
    rw (le-ltb (sh.height (sh.tail e)) (sh.height (sh.head e)) (omega arith))

lower-none : (r : Option ℕ) → lower r None ≡ r
lower-none None = refl
lower-none (Some e) = refl

module _ {s : List ℤ} {words : List ℕ} {n : ℕ} (S : SoundEnds s words n) where
  -- each edge has a top
  below-to-top : (e : ℕ) → e < n → (w : Way) × (end_of (drawing_of s) w e ≡ top_place (drawing_of s) e) × (comes (drawing_of s) w e ≡ below)
  unfolding comes
  below-to-top e l = by (is_below (edge_at s e).tail (edge_at s e).head) refl
    where
      by : (u : Bool) → is_below (edge_at s e).tail (edge_at s e).head ≡ u → (w : Way) × (end_of (drawing_of s) w e ≡ top_place (drawing_of s) e) × (comes (drawing_of s) w e ≡ below)
      by true u = let r = rises-to S.fit e l u in (arriving, rw (lt-ltb _ _ r), rw (lt-ltb _ _ r))
      by false u =
          let f = falls-to S.fit e l u in
          (leaving, rw (le-ltb ((drawing_of s).height ((drawing_of s).tail e)) ((drawing_of s).height ((drawing_of s).head e)) (omega (arith, f))), rw (lt-ltb _ _ f))

  -- before the first place
  pub none_so_far : CornersSoFar s words n 0 None no_marks
  none_so_far = record {
    tangles = least_start;
    size = length-replicate {A = Bool} most_edges false;
    seen = λ e k l h. absurd (omega arith);
    unseen = λ e f. no-mark false most_edges e;
  }

  module _ {a b : ℕ} (P : AtPlace words (2 * n) a b) where
    -- an edge whose top is at the place has had no mark so far
    unseen-here : {found : Option ℕ} {marks : List Bool} → CornersSoFar s words n a found marks → (e : ℕ) → top_place (drawing_of s) e ≡ place_in words a → get_or marks e false ≡ false
    unseen-here C e q = C.unseen e (λ k l h p. omega (arith, P.before k h, p, q))

    -- the place of an end before b is the place, or an earlier one
    here-or-before : (k : ℕ) → k < b → (k < a) ⊎ (place_in words k ≡ place_in words a)
    here-or-before k l = ⊎_elim inl (λ h. inr (P.here k h l)) (lt-or-le k a)

    -- nothing is marked at the place
    unmarked-more : {found x : Option ℕ} {marks : List Bool} → parts (drawing_of s) (place_in words a) ≡ false → Least (tangled_in s words) (edge_in words) a b x → CornersSoFar s words n a found marks → CornersSoFar s words n b (lower found x) marks
    unmarked-more {found} {x} none least C = record {
      tangles = least-join found x (omega arith) (omega (arith, P.some)) C.tangles least;
      size = C.size;
      seen = λ e k l h q. ⊎_elim (λ g. C.seen e k l g q) (λ g. unseen-here C e (sym q ∙ g) ∙ sym (ap (parts (drawing_of s)) (sym q ∙ g) ∙ none)) (here-or-before k h);
      unseen = λ e f. C.unseen e (λ k l h. f k l (omega (arith, P.some)));
    }

    -- all of its ends are at a place that 17 is given for, or none
    tangled-here : (t : Bool) → tangled (drawing_of s) (place_in words a) ≡ t → (k : ℕ) → a ≤ k → k < b → tangled_in s words k ≡ t
    unfolding tangled_in
    tangled-here t h k l m = ap (tangled (drawing_of s)) (P.here k l m) ∙ h

    -- there is nothing to find or to mark at the place
    pub nothing-more : {found : Option ℕ} {marks : List Bool} → tangled (drawing_of s) (place_in words a) ≡ false → parts (drawing_of s) (place_in words a) ≡ false → CornersSoFar s words n a found marks → CornersSoFar s words n b found marks
    nothing-more {found} {marks} t none C =
        subst (λ (r : Option ℕ). CornersSoFar s words n b r marks) (lower-none found) (unmarked-more none (least-none (tangled-here false t)) C)

  module _ {a : ℕ} (P : AtPlace words (2 * n) a (a + 4)) (F : FourEnds s words n a) where
    -- the two edges whose tops are at the place
    lower_edge : Way → ℕ
    lower_edge w = edge_in words (a + kind_number w below)

    top-here : (w : Way) → top_place (drawing_of s) (lower_edge w) ≡ place_in words a
    unfolding lower_edge
    top-here w = top-from-below (drawing_of s) w (lower_edge w) (F.side w below) ∙ F.here w below

    one_of_two : (e : ℕ) → e < n → top_place (drawing_of s) e ≡ place_in words a → (e ≡ lower_edge arriving) ⊎ (e ≡ lower_edge leaving)
    unfolding lower_edge drawing_of
    one_of_two e l q =
        let v = below-to-top e l in
        let same : e ≡ lower_edge v.0 = S.sound.single v.0 e (lower_edge v.0) (omega (arith, l, S.fit.all)) (omega (arith, F.is_edge v.0 below, S.fit.all)) (v.1 ∙ q ∙ sym (F.here v.0 below)) (v.2 ∙ sym (F.side v.0 below)) in
        by v.0 same
      where
        by : (w : Way) → e ≡ lower_edge w → (e ≡ lower_edge arriving) ⊎ (e ≡ lower_edge leaving)
        by arriving h = inl h
        by leaving h = inr h

    -- they are marked
    marked_more : {found : Option ℕ} {marks : List Bool} → tangled (drawing_of s) (place_in words a) ≡ false → parts (drawing_of s) (place_in words a) ≡ true → CornersSoFar s words n a found marks
        → CornersSoFar s words n (a + 4) found (set (set marks (edge_in words (a + 3)) true) (edge_in words (a + 1)) true)
    unfolding lower_edge
    marked_more {found} {marks} t split C = record {
      tangles = least_on found (omega arith) (omega arith) (tangled-here P false t) C.tangles;
      size = length-set (set marks x true) y true ∙ length-set marks x true ∙ C.size;
      seen = λ e k l h q. ⊎_elim (λ g. other e (λ w z. omega (arith, P.before k g, q, top_of w e z)) ∙ C.seen e k l g q) (λ g. ⊎_elim (λ z. ap (λ (i : ℕ). get_or (set (set marks x true) y true) i false) z ∙ first) (λ z. ap (λ (i : ℕ). get_or (set (set marks x true) y true) i false) z ∙ second) (one_of_two e l (sym q ∙ g)) ∙ sym (ap (parts (drawing_of s)) (sym q ∙ g) ∙ split)) (here-or-before P k h);
      unseen = λ e f. other e (λ w z. f a (omega (arith, z, F.is_edge w below)) (omega arith) (sym (top_of w e z))) ∙ C.unseen e (λ k l h. f k l (omega arith));
    }
      where
        x : ℕ
        x = lower_edge arriving

        y : ℕ
        y = lower_edge leaving

        top_of : (w : Way) (e : ℕ) → e ≡ lower_edge w → top_place (drawing_of s) e ≡ place_in words a
        top_of w e z = ap (top_place (drawing_of s)) z ∙ top-here w

        other : (e : ℕ) → ((w : Way) → e ≡ lower_edge w → ⊥) → get_or (set (set marks x true) y true) e false ≡ get_or marks e false
        other e d = get_or-set_other (set marks x true) y e true false (d leaving) ∙ get_or-set_other marks x e true false (d arriving)

        room : (w : Way) → lower_edge w < length marks
        room w = omega (arith, F.is_edge w below, S.fit.few, C.size)

        second : get_or (set (set marks x true) y true) y false ≡ true
        second = get_or-set_same (set marks x true) y true false (omega (arith, room leaving, length-set marks x true))

        first : get_or (set (set marks x true) y true) x false ≡ true
        first = ⊎_elim (λ z. ap (λ (e : ℕ). get_or (set (set marks x true) y true) e false) z ∙ second) (λ d. get_or-set_other (set marks x true) y x true false d ∙ get_or-set_same marks x true false (room arriving)) (eq-or-ne x y)

  -- four ends at a place: what the turns below and above say
  module _ {a : ℕ} (P : AtPlace words (2 * n) a (a + 4)) where
    pub tangled-step : {found x : Option ℕ} {marks : List Bool} → alike (low_turn s words a) (high_turn s words a) ≡ false → Least any_end (edge_in words) a (a + 4) x → CornersSoFar s words n a found marks → CornersSoFar s words n (a + 4) (lower found x) marks
    tangled-step {x = x} h least C =
        let t = tangled-is S P ∙ ap not h in
        unmarked-more P (tangled-parts s (place_in words a) t) (least-same _ x (tangled-here P true t) least) C

    module _ (alternate : alike (low_turn s words a) (high_turn s words a) ≡ true) where
      untangled : tangled (drawing_of s) (place_in words a) ≡ false
      untangled = tangled-is S P ∙ ap not alternate

      pub joined_step_lem : {found : Option ℕ} {marks : List Bool} → is_sign (low_turn s words a) plus ≡ false → CornersSoFar s words n a found marks → CornersSoFar s words n (a + 4) found marks
      joined_step_lem h C = nothing-more P untangled (parts_is S P alternate ∙ h) C

      pub apart-step : {x y : ℕ} {found : Option ℕ} {marks : List Bool} → x ≡ edge_in words (a + 3) → y ≡ edge_in words (a + 1) → is_sign (low_turn s words a) plus ≡ true → CornersSoFar s words n a found marks → CornersSoFar s words n (a + 4) found (set (set marks x true) y true)
      apart-step p q h C = rw (p, q) (marked_more P (four-ends S P) untangled (parts_is S P alternate ∙ h) C)

  -- after the last place
  pub all-marked : {found : Option ℕ} {marks : List Bool} → CornersSoFar s words n (2 * n) found marks → Marked s marks
  all-marked {marks = marks} C = record { size = C.size; mark = λ e. ⊎_elim (yes e) (no e) (lt-or-le e n) }
    where
      yes : (e : ℕ) → e < n → get_or marks e false ≡ (ltb e (edges_in s) && parts (drawing_of s) (top_place (drawing_of s) e))
      yes e l =
          let v = below-to-top e l in
          let k = S.ordered.stands v.0 e l in
          C.seen e k.0 l k.1 (place-told S.fit S.ordered v.0 e k.0 l k.2 ∙ v.1) ∙ rw (lt-ltb e (edges_in s) (omega (arith, S.fit.all)))

      no : (e : ℕ) → n ≤ e → get_or marks e false ≡ (ltb e (edges_in s) && parts (drawing_of s) (top_place (drawing_of s) e))
      no e l = C.unseen e (λ k h. absurd (omega arith)) ∙ rw (le-ltb e (edges_in s) (omega (arith, S.fit.all)))

  pub first-tangle : {found : Option ℕ} {marks : List Bool} → CornersSoFar s words n (2 * n) found marks → IsFirst (not_alternating (drawing_of s)) (edges_in s) found
  first-tangle {found} C = tangle-first S.fit S.ordered found C.tangles
