-- The three lists of an accepted sheet, for those who cut by them: outline after outline, each from its edge 0 from point to point and back to where it
-- began. The numbering of a list is a good numbering, so that it has a turn list. In it neighbours of one polygon follow each other by the joins
-- (crates/hartley), where an edge follows another its tail is the place of the other's head, and one place is of one film and one point. The
-- last of a polygon in the turn list has its largest sequence number, and the join from there leads to 0.
use mathlib.Core.Path.{◌≡◌, refl, sym, ap, ◌∙◌, subst}
use mathlib.Core.Bool.{true}
use mathlib.Core.List.{List}
use mathlib.Core.Logic.{⊎_elim}
use Prim.Native.Nat.{ℕ, suc, ◌*◌, ◌/◌, ◌%◌, ◌≤◌, ◌<◌}
use native.Mathlib.Omega.{arith}
use lib.Dec.{eqb}
use lib.ListN.{length, get_or}
use Rattle.laws.specs.Counting.{count}
use Rattle.laws.proofs.Deciding.{lt-or-le}
use Rattle.laws.proofs.Counting.{count-all}
use Rattle.laws.proofs.Pigeonhole.{pigeon}
use Rattle.sheet.specs.Edges.{Drawing, edge_at, edges_in, drawing_of}
use Rattle.sheet.specs.Joining.{Follows, InOutline, itself, onwards}
use Rattle.sheet.specs.Numbering.{Numbering}
use Rattle.sheet.specs.Passing.{outline_size}
use Rattle.sheet.specs.Answers.{Call}
use Rattle.sheet.specs.TurnList.{NumberLists, number_lists, GoodNumbering, GoodLists, TurnList}
use Rattle.sheet.proofs.Checked.{Checked, joins}
use Rattle.sheet.proofs.Places.{place-parts}
use Rattle.sheet.proofs.Outlines.{outline-shares, shares-outline}
use Rattle.sheet.proofs.ExactlyAccepted.{accepts-exactly}
use Rattle.checks.proofs.Passed.{AllPassed}
use Rattle.hartley.proofs.Results.TurnsFollow.{sequence-below, sequence-met, last-to-first, turns-follow}
use Rattle.turns.proofs.OneTurnList.{every-edge, edge_once}
use Rattle.assembly.specs.Assembled.{CutInOrder}

-- An outline has two edges at least: an edge and the one that follows it, which differ since an edge's ends do.
module _ {sh : Drawing} (K : Checked sh) {polygon sequence : ℕ → ℕ} {n : ℕ} (A : Numbering sh polygon sequence n) where
  not-alone : (e : ℕ) → Follows sh e e → ⊥
  not-alone e F = K.proper e F.is_edge F.meet

  two-of : (e : ℕ) → e < sh.edges → 2 ≤ outline_size sh polygon (polygon e)
  two-of e l = ⊎_elim (λ h. h) (λ h. absurd (one h)) (lt-or-le 1 (outline_size sh polygon (polygon e)))
    where
      F : Follows sh e ((joins K).next e)
      F = (joins K).follows e l

      one : outline_size sh polygon (polygon e) ≤ 1 → ⊥
      one h =
          let p = A.shared _ _ F in
          let q : (joins K).next e ≡ e = A.pairs _ _ F.next_is_edge l p (omega (arith, h, sequence-below K A e l, sequence-below K A _ F.next_is_edge, ap (outline_size sh polygon) p)) in
          not-alone e (rw q at F)

  -- so there are at most half as many polygons as edges: the k-th edge counted over the polygons, two of each
  pub few-polygons : 2 * n ≤ sh.edges
  few-polygons =
      let p = pigeon (λ k x. (polygon x ≡ suc (k / 2)) × (sequence x ≡ k % 2)) (λ i j x a b. omega (arith, a.0, a.1, b.0, b.1)) (λ k. true) (λ x. true) (2 * n) sh.edges
      (λ k h t.
      let e = A.no_gap (suc (k / 2)) (omega arith) (omega arith) in
      let two = two-of e.0 e.1 in
      let x = sequence-met K A (suc (k / 2)) (k % 2) (omega (arith, two, ap (outline_size sh polygon) e.2)) in
      (x.0, x.1, refl, (x.2, x.3))) in
      omega (arith, p, count-all (λ k. true) (2 * n) (λ k h. refl), count-all (λ x. true) sh.edges (λ x h. refl))

module _ {sh : Drawing} (K : Checked sh) {polygon sequence : ℕ → ℕ} {n : ℕ} (A : Numbering sh polygon sequence n) where
  abbrev numbers : NumberLists
  numbers = record { polygon = polygon; sequence = sequence; edges = sh.edges }

  numbering-good : GoodNumbering numbers n
  numbering-good = record {
    from_one = A.from_one;
    no_gap = A.no_gap;
    no_repeat = A.pairs;
    from_zero = λ e i l h. sequence-met K A (polygon e) i (omega (arith, h, sequence-below K A e l));
  }

  module _ (turns : List ℕ) (L : TurnList numbers turns) where
    abbrev turn : ℕ → ℕ
    turn i = get_or turns i 0

    rises : (i j : ℕ) → i < j → j < sh.edges → polygon (turn i) ≤ polygon (turn j)
    rises i j l m = ⊎_elim (λ h. omega arith) (λ h. omega arith) (L.in_order i j l m)

    -- the edges of a polygon stand together
    together : (i j : ℕ) → i < j → j < sh.edges → polygon (turn i) ≡ polygon (turn j) → polygon (turn i) ≡ polygon (turn (suc i))
    together i j l m q = ⊎_elim
        (λ h. omega (arith, q, rises i (suc i) (omega arith) (omega arith), rises (suc i) j h m))
        (λ h. let e : j ≡ suc i = omega arith in q ∙ ap (λ k. polygon (turn k)) e)
        (lt-or-le (suc i) j)

    -- in it a larger number stands later
    stands-later : (i j : ℕ) → i < sh.edges → j < sh.edges → polygon (turn j) ≡ polygon (turn i) → sequence (turn i) < sequence (turn j) → i < j
    stands-later i j l m p s = ⊎_elim (λ h. h) (λ h. absurd (⊎_elim earlier (λ g. same (omega arith)) (lt-or-le j i))) (lt-or-le i j)
      where
        earlier : j < i → ⊥
        earlier g = ⊎_elim (λ h. omega (arith, p, h)) (λ h. omega (arith, s, h)) (L.in_order j i g l)

        same : j ≡ i → ⊥
        same q = omega (arith, s, ap (λ k. sequence (turn k)) q)

    -- a number of the polygon stands somewhere
    stands : (i k : ℕ) → i < sh.edges → k < outline_size sh polygon (polygon (turn i)) → (j : ℕ) × (j < sh.edges) × (polygon (turn j) ≡ polygon (turn i)) × (sequence (turn j) ≡ k)
    stands i k l h =
        let e = sequence-met K A (polygon (turn i)) k h in
        let w = every-edge L e.0 e.1 in
        (w.0, w.1, ap polygon w.2 ∙ e.2, ap sequence w.2 ∙ e.3)

    last-largest : (i : ℕ) → i < sh.edges → (suc i < sh.edges → polygon (turn i) ≡ polygon (turn (suc i)) → ⊥) → suc (sequence (turn i)) ≡ outline_size sh polygon (polygon (turn i))
    last-largest i l last = ⊎_elim (λ h. absurd (more h)) (λ h. omega (arith, h, sequence-below K A (turn i) (L.places i l))) (lt-or-le (suc (sequence (turn i))) (outline_size sh polygon (polygon (turn i))))
      where
        more : suc (sequence (turn i)) < outline_size sh polygon (polygon (turn i)) → ⊥
        more h =
            let w = stands i (suc (sequence (turn i))) l h in
            let g = stands-later i w.0 l w.1 w.2 (omega (arith, w.3)) in
            last (omega (arith, g, w.1)) (together i w.0 g w.1 (sym w.2))

    back : (i : ℕ) → i < sh.edges → (suc i < sh.edges → polygon (turn i) ≡ polygon (turn (suc i)) → ⊥) → (j : ℕ) × (j ≤ i) × (polygon (turn j) ≡ polygon (turn i)) × (sequence (turn j) ≡ 0) × Follows sh (turn i) (turn j)
    back i l last =
        let w = stands i 0 l (omega (arith, sequence-below K A (turn i) (L.places i l))) in
        (w.0, not-later w.0 w.1 w.2 w.3, w.2, w.3, last-to-first K A (turn i) (turn w.0) (L.places i l) (L.places w.0 w.1) w.2 (last-largest i l last) w.3)
      where
        not-later : (j : ℕ) → j < sh.edges → polygon (turn j) ≡ polygon (turn i) → sequence (turn j) ≡ 0 → j ≤ i
        not-later j m p z = ⊎_elim (λ h. absurd (⊎_elim (λ g. omega (arith, p, g)) (λ g. omega (arith, z, g)) (L.in_order i j h m))) (λ h. h) (lt-or-le i j)

-- where an edge follows another, it is of the other's film, and its tail is the other's head, as points
meets : {c : Call} → AllPassed c → (e f : ℕ) → Follows (drawing_of c.list) e f → ((edge_at c.list e).film ≡ (edge_at c.list f).film) × ((edge_at c.list e).head ≡ (edge_at c.list f).tail)
unfolding drawing_of
meets {c} P e f F =
    place-parts (edge_at c.list e).film (edge_at c.list f).film (edge_at c.list e).head (edge_at c.list f).tail
    (P.films_in_range e F.is_edge) (P.films_in_range f F.next_is_edge) (P.heads_in_range e F.is_edge) (P.tails_in_range f F.next_is_edge)
    (sym F.meet)

-- so an outline is of one film
film-kept : {c : Call} → AllPassed c → (e f : ℕ) → InOutline (drawing_of c.list) e f → (edge_at c.list e).film ≡ (edge_at c.list f).film
film-kept P e f itself = refl
film-kept P e f (onwards o a) = film-kept P e _ o ∙ (meets P _ f a).0

-- the three lists of a call that passed its checks
module _ {c : Call} (P : AllPassed c) (polygons sequences : List ℕ) {n : ℕ}
    (A : Numbering (drawing_of c.list) (λ e. get_or polygons e 0) (λ e. get_or sequences e 0) n)
    (polygons_long : length polygons ≡ edges_in c.list) (sequences_long : length sequences ≡ edges_in c.list) where
  pub good : GoodLists polygons sequences (edges_in c.list) n
  unfolding drawing_of number_lists
  good = record {
    sequences_too = sequences_long ∙ sym polygons_long;
    turns_too = sym polygons_long;
    few = omega (arith, polygons_long, P.few);
    numbering = subst (λ (k : ℕ). GoodNumbering (record { polygon = λ e. get_or polygons e 0; sequence = λ e. get_or sequences e 0; edges = k }) n) (sym polygons_long) (numbering-good P.sheet A);
  }

  pub half : 2 * n ≤ length polygons
  unfolding drawing_of
  half = omega (arith, polygons_long, few-polygons P.sheet A)

  module _ (turns : List ℕ) (T : TurnList (number_lists polygons sequences) turns) where
    drawn : TurnList (record { polygon = λ e. get_or polygons e 0; sequence = λ e. get_or sequences e 0; edges = (drawing_of c.list).edges }) turns
    unfolding drawing_of number_lists
    drawn = subst (λ (k : ℕ). TurnList (record { polygon = λ e. get_or polygons e 0; sequence = λ e. get_or sequences e 0; edges = k }) turns) polygons_long T

    long : length turns ≡ (drawing_of c.list).edges
    long = drawn.size

    pub cut-in-order : CutInOrder c.list polygons sequences turns n
    unfolding drawing_of
    cut-in-order = record {
      one_outline = λ e f el fl. (shares-outline P.sheet A e f el fl, outline-shares P.sheet A e f);
      one_film = λ e f el fl p. film-kept P e f (shares-outline P.sheet A e f el fl p);
      never_refused = (accepts-exactly polygons sequences (length turns) n).1 (rw long good);
      turn_list = T;
      edge_once = λ e el. ap (count (λ i. eqb (get_or turns i 0) e)) long ∙ edge_once drawn e el;
      end_to_end = λ i il q. (meets P _ _ (turns-follow P.sheet A turns drawn i (omega (arith, il, long)) q)).1;
      back_to_first = λ i il last.
          let w = back P.sheet A turns drawn i (omega (arith, il, long)) (λ h. last (omega (arith, h, long))) in
          (w.0, w.1, w.2, w.3, (meets P _ _ w.4).1);
    }
