-- A place with four ends, in a list that passes 8 and 9. The words of its ends rise, and no two are of one kind, so they stand by kind: each is the edge of its
-- kind there. So the turns that the code computes below and above the place are those of its corner.
use mathlib.Core.Path.{◌≡◌, refl, sym, ap, ◌∙◌}
use mathlib.Core.Bool.{Bool, true, false, not, cond}
use mathlib.Core.List.{List}
use mathlib.Core.Logic.{⊎_elim}
use Prim.Native.Nat.{ℕ, ◌+◌, ◌-◌, ◌*◌, ◌/◌, ◌<◌, ◌≤◌}
use native.Mathlib.Omega.{arith}
use lib.Dec.{eqb, ltb}
use lib.IntN.{ℤ, pos}
use lib.Signed.{lt_z}
use lib.ListN.{get_or}
use mir.Syntax.{w64}
use mir.Val.{to_z, of_z}
use mir.ValLaws.{to_z-of_z}
use borrow.Author.Tests.{lt-ltb, le-ltb, eq-eqb}
use Rattle.laws.proofs.Deciding.{lt-or-le}
use Rattle.laws.proofs.Tests.{and-true, and-false}
use Rattle.sheet.specs.Points.{is_below}
use Rattle.sheet.specs.Turning.{Sign, plus, sign, is_sign, cross, turn}
use Rattle.sheet.specs.Edges.{edge_at, drawing_of}
use Rattle.sheet.specs.Kinds.{Way, arriving, leaving, other_way, From, below, above, end_of, comes, number_at}
use Rattle.sheet.specs.Corners.{along, four, of_kind, corner_at, alternate, apart}
use Rattle.sheet.specs.Sound.{Sound}
use Rattle.sheet.specs.Answers.{tangled}
use Rattle.sheet.proofs.Places.{place-below, place-parts}
use Rattle.sheet.proofs.AtAPlace.{same_true, of-kind, kind-there, two-each}
use Rattle.corner.specs.Turns.{alike}
use Rattle.corner.proofs.SameTurn.{above-0}
use Rattle.corner.proofs.Sides.{side, side_of, Sided}
use Rattle.corner.proofs.SidesOfPoints.{side-below, side-above}
use Rattle.corner.proofs.Corners.{alternate-is, apart-is}
use Rattle.corner.proofs.Sizes.{near, cross-fits}
use Rattle.ends.specs.Fitting.{EndsFit}
use Rattle.ends.specs.Ends.{way_number, from_number, word_of, key_in, place_in, edge_in, IsEnd}
use Rattle.checks.specs.Places.{AtPlace}
use Rattle.checks.specs.Corners.{parts, turn_in, SoundEnds}
use Rattle.ends.proofs.Fitting.{tail-in, head_in, film-in}
use Rattle.ends.proofs.Words.{from-small, way-small, word-key, rises-to, falls-to}
use Rattle.checks.proofs.ByWords.{one_way_lem, one_from, number-told, place-told, edge-told, key-way}
use Rattle.checks.proofs.Visiting.{ends-between}

-- a word has the number of its edge's kind
abbrev pub kind_number : Way → From → ℕ
kind_number w c = 2 * way_number w + from_number c

-- the four ends from a on are of one place, an edge of each kind, in the order of the kinds
pub record FourEnds (s : List ℤ) (words : List ℕ) (n a : ℕ) : Type 0 where
  pub is_edge : (w : Way) (c : From) → edge_in words (a + kind_number w c) < n
  pub here : (w : Way) (c : From) → end_of (drawing_of s) w (edge_in words (a + kind_number w c)) ≡ place_in words a
  pub side : (w : Way) (c : From) → comes (drawing_of s) w (edge_in words (a + kind_number w c)) ≡ c

-- a kind's number tells the kind
same_kind_lem : (v w : Way) (c d : From) → kind_number v c ≡ kind_number w d → (v ≡ w) × (c ≡ d)
same_kind_lem v w c d q =
    let way : way_number v ≡ way_number w = omega (arith, q, from-small c, from-small d) in
    (one_way_lem v w way, same_true c d (one_from c d (omega (arith, q, way))))

kind-small : (w : Way) (c : From) → kind_number w c ≤ 3
kind-small w c = omega (arith, way-small w, from-small c)

module _ {s : List ℤ} {words : List ℕ} {n : ℕ} (S : SoundEnds s words n) where
  few : {e : ℕ} → e < n → e < 4096
  few l = omega (arith, S.fit.few)

  -- keys rise: two ends of one key would be of one edge
  keys-rise : (k : ℕ) → k + 1 < 2 * n → key_in words k < key_in words (k + 1)
  unfolding drawing_of
  keys-rise k l = ⊎_elim (λ h. h) (λ h. absurd (twice h)) (lt-or-le (key_in words k) (key_in words (k + 1)))
    where
      x : IsEnd s n (get_or words k 0)
      x = S.ordered.held k (omega arith)

      y : IsEnd s n (get_or words (k + 1) 0)
      y = S.ordered.held (k + 1) l

      less : get_or words k 0 < get_or words (k + 1) 0
      less = S.ordered.rising k (k + 1) (omega arith) l

      twice : key_in words (k + 1) ≤ key_in words k → ⊥
      twice h =
          let keys : word_of s x.way x.edge / 4096 ≡ word_of s y.way y.edge / 4096 = omega (arith, less, h, x.told, y.told) in
          let way : x.way ≡ y.way = key-way S.fit S.ordered x.way y.way x.edge y.edge x.is_edge y.is_edge keys in
          let same : word_of s y.way x.edge / 4096 ≡ word_of s y.way y.edge / 4096 = ap (λ (v : Way). word_of s v x.edge / 4096) (sym way) ∙ keys in
          let key = sym (word-key s y.way x.edge (few x.is_edge)) ∙ same ∙ word-key s y.way y.edge (few y.is_edge) in
          let place : end_of (drawing_of s) y.way x.edge ≡ end_of (drawing_of s) y.way y.edge = omega (arith, key, way-small y.way, from-small (comes (drawing_of s) y.way x.edge), from-small (comes (drawing_of s) y.way y.edge)) in
          let side : comes (drawing_of s) y.way x.edge ≡ comes (drawing_of s) y.way y.edge = (same_kind_lem y.way y.way (comes (drawing_of s) y.way x.edge) (comes (drawing_of s) y.way y.edge) (omega (arith, key, place))).1 in
          let edge : x.edge ≡ y.edge = S.sound.single y.way x.edge y.edge (omega (arith, x.is_edge, S.fit.all)) (omega (arith, y.is_edge, S.fit.all)) place side in
          omega (arith, less, x.told ∙ ap (λ (v : Way). word_of s v x.edge) way ∙ ap (word_of s y.way) edge ∙ sym y.told)

  -- a place has as many ends as edges
  pub four_is : {a b : ℕ} → AtPlace words (2 * n) a b → four (drawing_of s) (place_in words a) ≡ eqb (b - a) 4
  unfolding four
  four_is {a} {b} P =
      let q : number_at (drawing_of s) arriving (place_in words a) + number_at (drawing_of s) leaving (place_in words a) ≡ b - a = omega (arith, number-told S.fit S.ordered arriving (place_in words a), number-told S.fit S.ordered leaving (place_in words a), ends-between P) in
      ap (λ (x : ℕ). eqb x 4) q

  module _ {a : ℕ} (P : AtPlace words (2 * n) a (a + 4)) where
    -- the ends stand by kind
    key-at : (w : Way) (c : From) → key_in words (a + kind_number w c) ≡ place_in words a * 4 + kind_number w c
    key-at w c = by w c
      where
        step : (j : ℕ) → j < 3 → key_in words (a + j) < key_in words (a + (j + 1))
        step j m = let q : a + (j + 1) ≡ a + j + 1 = omega arith in rw q (keys-rise (a + j) (omega (arith, P.within)))

        first : key_in words (a + 0) / 4 ≡ place_in words a
        first = omega (arith, P.here (a + 0) (omega arith) (omega arith))

        last : key_in words (a + 3) / 4 ≡ place_in words a
        last = omega (arith, P.here (a + 3) (omega arith) (omega arith))

        by : (w : Way) (c : From) → key_in words (a + kind_number w c) ≡ place_in words a * 4 + kind_number w c
        by leaving above = omega (arith, first, last, step 0 (omega arith), step 1 (omega arith), step 2 (omega arith))
        by leaving below = omega (arith, first, last, step 0 (omega arith), step 1 (omega arith), step 2 (omega arith))
        by arriving above = omega (arith, first, last, step 0 (omega arith), step 1 (omega arith), step 2 (omega arith))
        by arriving below = omega (arith, first, last, step 0 (omega arith), step 1 (omega arith), step 2 (omega arith))

    module _ (w : Way) (c : From) where
      spot : a + kind_number w c < 2 * n
      spot = omega (arith, kind-small w c, P.within)

      end : IsEnd s n (get_or words (a + kind_number w c) 0)
      end = S.ordered.held (a + kind_number w c) spot

      edge-is : edge_in words (a + kind_number w c) ≡ end.edge
      edge-is = edge-told S.fit S.ordered end.way end.edge (a + kind_number w c) end.is_edge end.told

      kind-is : (end.way ≡ w) × (comes (drawing_of s) end.way end.edge ≡ c)
      kind-is =
          let key = sym (word-key s end.way end.edge (few end.is_edge)) ∙ ap (λ (x : ℕ). x / 4096) (sym end.told) ∙ key-at w c in
          same_kind_lem end.way w _ c (omega (arith, key, kind-small w c, kind-small end.way (comes (drawing_of s) end.way end.edge)))

      place_is : end_of (drawing_of s) end.way end.edge ≡ place_in words a
      place_is = sym (place-told S.fit S.ordered end.way end.edge (a + kind_number w c) end.is_edge end.told) ∙ P.here (a + kind_number w c) (omega arith) (omega (arith, kind-small w c))

    pub four-ends : FourEnds s words n a
    four-ends = record {
      is_edge = λ w c. omega (arith, edge-is w c, (end w c).is_edge);
      here = λ w c. rw (edge-is w c) (ap (λ (v : Way). end_of (drawing_of s) v (end w c).edge) (sym (kind-is w c).0) ∙ place_is w c);
      side = λ w c. rw (edge-is w c) (ap (λ (v : Way). comes (drawing_of s) v (end w c).edge) (sym (kind-is w c).0) ∙ (kind-is w c).1);
    }

    -- below and above, the one leaves where the other arrives
    pub meets-below : (edge_in words (a + 3) < n) × (edge_in words (a + 1) < n) × ((drawing_of s).tail (edge_in words (a + 1)) ≡ (drawing_of s).head (edge_in words (a + 3)))
    meets-below = let F = four-ends in (F.is_edge arriving below, F.is_edge leaving below, F.here leaving below ∙ sym (F.here arriving below))

    pub meets-above : (edge_in words (a + 2) < n) × (edge_in words a < n) × ((drawing_of s).tail (edge_in words a) ≡ (drawing_of s).head (edge_in words (a + 2)))
    meets-above =
        let F = four-ends in
        let q : a + 0 ≡ a = omega arith in
        (F.is_edge arriving above, rw q at (F.is_edge leaving above), ap (λ (k : ℕ). (drawing_of s).tail (edge_in words k)) (sym q) ∙ F.here leaving above ∙ sym (F.here arriving above))

-- the turn where one edge leaves from another's head: as the code computes it, from that head, and as 64 bits keep it
module _ {s : List ℤ} {n : ℕ} (E : EndsFit s n) {e f : ℕ} (l : e < n) (m : f < n) (meet : (drawing_of s).tail f ≡ (drawing_of s).head e) where
  pub leaves_at_lem : (edge_at s f).tail ≡ (edge_at s e).head
  unfolding drawing_of
  leaves_at_lem = (place-parts _ _ _ _ (film-in E f m) (film-in E e l) (tail-in E f m) (head_in E e l) meet).1

  pub turn-kept : to_z w64 (of_z w64 (cross ((drawing_of s).back e) ((drawing_of s).ahead f))) ≡ cross ((drawing_of s).back e) ((drawing_of s).ahead f)
  unfolding drawing_of
  turn-kept = to_z-of_z w64 _ (cross-fits _ _ (near _ _ (head_in E e l) (tail-in E e l)) (near _ _ (tail-in E f m) (head_in E f m)))

-- a turn's sign as the code computes it
module _ {s : List ℤ} {n : ℕ} (E : EndsFit s n) {i j : ℕ} {low : ℤ} (p : low ≡ cross ((drawing_of s).back i) ((drawing_of s).ahead j)) (below : (i < n) × (j < n) × ((drawing_of s).tail j ≡ (drawing_of s).head i)) where
  kept : sign (to_z w64 (of_z w64 low)) ≡ turn_in s i j
  unfolding turn
  kept = rw (p, turn-kept E below.0 below.1 below.2)

-- an edge's direction from a place lies on the side that it comes from
module _ {s : List ℤ} {n : ℕ} (E : EndsFit s n) (e : ℕ) (l : e < n) where
  along-side : (w : Way) → side (along (drawing_of s) w e) ≡ side_of (comes (drawing_of s) w e)
  unfolding comes drawing_of
  along-side w = by w (is_below (edge_at s e).tail (edge_at s e).head) refl
    where
      back-down : is_below (edge_at s e).tail (edge_at s e).head ≡ false → is_below (edge_at s e).head (edge_at s e).tail ≡ true
      back-down u = place-below _ _ _ _ (film-in E e l) (film-in E e l) (head_in E e l) (tail-in E e l) ∙ lt-ltb _ _ (falls-to E e l u)

      by : (w : Way) (u : Bool) → is_below (edge_at s e).tail (edge_at s e).head ≡ u → side (along (drawing_of s) w e) ≡ side_of (cond (ltb ((drawing_of s).height (end_of (drawing_of s) (other_way w) e)) ((drawing_of s).height (end_of (drawing_of s) w e))) below above)
      by arriving true u = rw (lt-ltb _ _ (rises-to E e l u)) (side-below (edge_at s e).head (edge_at s e).tail u)
      by arriving false u = rw (le-ltb ((drawing_of s).height ((drawing_of s).tail e)) ((drawing_of s).height ((drawing_of s).head e)) (omega (arith, falls-to E e l u))) (side-above (edge_at s e).head (edge_at s e).tail (back-down u))
      by leaving true u = rw (le-ltb ((drawing_of s).height ((drawing_of s).head e)) ((drawing_of s).height ((drawing_of s).tail e)) (omega (arith, rises-to E e l u))) (side-above (edge_at s e).tail (edge_at s e).head u)
      by leaving false u = rw (lt-ltb _ _ (falls-to E e l u)) (side-below (edge_at s e).tail (edge_at s e).head (back-down u))

-- where four edges of a sound list meet, each of the corner's directions lies on its side
pub corner-sided : {s : List ℤ} {n : ℕ} → EndsFit s n → Sound (drawing_of s) → (p : ℕ) → four (drawing_of s) p ≡ true → Sided (corner_at (drawing_of s) p)
unfolding corner_at drawing_of
corner-sided {s} E S p whole = record { sided = side-of }
  where
    side-of : (w : Way) (c : From) → side (along (drawing_of s) w (of_kind (drawing_of s) p w c)) ≡ side_of c
    side-of w c =
        let v = kind-there S w p (two-each S p whole w) c in
        rw (ap (of_kind (drawing_of s) p w) (sym v.3) ∙ of-kind S w p v.0 v.1 v.2) (along-side E v.0 (omega (arith, v.1, E.all)) w ∙ ap side_of v.3)

-- the turns between the four ends from a on: from the lower arriving edge to the lower leaving one, and from the upper to the upper
abbrev pub low_turn : List ℤ → List ℕ → ℕ → Sign
low_turn s words a = turn_in s (edge_in words (a + 3)) (edge_in words (a + 1))

abbrev pub high_turn : List ℤ → List ℕ → ℕ → Sign
high_turn s words a = turn_in s (edge_in words (a + 2)) (edge_in words a)

-- what is told of the turns between four edges that were read
module _ {s : List ℤ} {words : List ℕ} {n a : ℕ} (S : SoundEnds s words n) (P : AtPlace words (2 * n) a (a + 4)) {i j : ℕ} (first : i ≡ edge_in words (a + 3)) (second : j ≡ edge_in words (a + 1)) where
  pub below-met : (i < n) × (j < n) × ((drawing_of s).tail j ≡ (drawing_of s).head i)
  below-met = let b = meets-below S P in rw (first, second) b

  module _ {k l : ℕ} (third : k ≡ edge_in words (a + 2)) (fourth : l ≡ edge_in words a) where
    pub above-met : (k < n) × (l < n) × ((drawing_of s).tail l ≡ (drawing_of s).head k)
    above-met = let u = meets-above S P in rw (third, fourth) u

    pub turns-told : {low high : ℤ} {r : Bool} → low ≡ cross ((drawing_of s).back i) ((drawing_of s).ahead j) → high ≡ cross ((drawing_of s).back k) ((drawing_of s).ahead l) → r ≡ alike (sign (to_z w64 (of_z w64 low))) (sign (to_z w64 (of_z w64 high)))
        → (alike (low_turn s words a) (high_turn s words a) ≡ r) × (is_sign (low_turn s words a) plus ≡ lt_z (pos 0) (to_z w64 (of_z w64 low)))
    turns-told p q h =
        let low-kept = (λ x. turn_in s (sym first x) (sym second x)) ∙ sym (kept S.fit p below-met) in
        let high-kept = (λ x. turn_in s (sym third x) (sym fourth x)) ∙ sym (kept S.fit q above-met) in
        ((λ x. alike (low-kept x) (high-kept x)) ∙ sym h, ap (λ (t : Sign). is_sign t plus) low-kept ∙ sym (above-0 _))

module _ {s : List ℤ} {words : List ℕ} {n a : ℕ} (S : SoundEnds s words n) (P : AtPlace words (2 * n) a (a + 4)) where
  is-corner : (w : Way) (c : From) → corner_at (drawing_of s) (place_in words a) w c ≡ along (drawing_of s) w (edge_in words (a + kind_number w c))
  unfolding corner_at drawing_of
  is-corner w c =
      let F = four-ends S P in
      ap (along (drawing_of s) w) (ap (of_kind (drawing_of s) (place_in words a) w) (sym (F.side w c)) ∙ of-kind S.sound w (place_in words a) (edge_in words (a + kind_number w c)) (omega (arith, F.is_edge w c, S.fit.all)) (F.here w c))

  whole : four (drawing_of s) (place_in words a) ≡ true
  whole = four_is S P ∙ eq-eqb (a + 4 - a) 4 (omega arith)

  sided : Sided (corner_at (drawing_of s) (place_in words a))
  sided = corner-sided S.fit S.sound (place_in words a) whole

  turn_below : turn (corner_at (drawing_of s) (place_in words a) arriving below) (corner_at (drawing_of s) (place_in words a) leaving below) ≡ low_turn s words a
  turn_below = rw (is-corner arriving below, is-corner leaving below)

  turn-above : turn (corner_at (drawing_of s) (place_in words a) arriving above) (corner_at (drawing_of s) (place_in words a) leaving above) ≡ high_turn s words a
  turn-above = let q : a + 0 ≡ a = omega arith in rw (is-corner arriving above, is-corner leaving above, q)

  alternates : alternate (corner_at (drawing_of s) (place_in words a)) ≡ alike (low_turn s words a) (high_turn s words a)
  alternates = alternate-is (corner_at (drawing_of s) (place_in words a)) sided ∙ rw (turn_below, turn-above)

  -- 17 is given for the place where the two turns are not alike ..
  pub tangled-is : tangled (drawing_of s) (place_in words a) ≡ not (alike (low_turn s words a) (high_turn s words a))
  unfolding tangled
  tangled-is = rw (whole, alternates)

  -- .. and where they are, it is apart where the lower one is plus
  pub parts_is : alike (low_turn s words a) (high_turn s words a) ≡ true → parts (drawing_of s) (place_in words a) ≡ is_sign (low_turn s words a) plus
  unfolding parts apart
  parts_is h = rw (tangled-is, whole, h, apart-is (corner_at (drawing_of s) (place_in words a)) sided (alternates ∙ h), turn_below) (and-true (is_sign (low_turn s words a) plus))

-- a place that 17 is given for is not marked
pub tangled-parts : (s : List ℤ) (p : ℕ) → tangled (drawing_of s) p ≡ true → parts (drawing_of s) p ≡ false
unfolding parts
tangled-parts s p h = rw h (and-false (apart (drawing_of s) p))

-- .. nor one with two ends
pub two-parts : (s : List ℤ) (p : ℕ) → four (drawing_of s) p ≡ false → (tangled (drawing_of s) p ≡ false) × (parts (drawing_of s) p ≡ false)
unfolding parts apart tangled
two-parts s p h = (rw h, rw h)
