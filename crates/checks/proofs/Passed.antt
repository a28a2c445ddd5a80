-- What every later step goes by: a call that passes the eleven checks has its lists of the right lengths, every end and film in the range, and a checked
-- sheet. Each field of `Checked` is one of 5 to 9, 16 or 17 that was not given; a place is told by its height and its film.
use Rattle.std.specs.Prelude.{Ok}
use mathlib.Core.Path.{◌≡◌, sym, ap, ◌∙◌}
use mathlib.Core.Bool.{true, false, ◌&&◌}
use mathlib.Core.List.{List}
use mathlib.Core.Logic.{◌↔◌}
use Prim.Native.Nat.{ℕ, suc, ◌*◌, ◌/◌, ◌%◌, ◌≤◌, ◌<◌}
use native.Mathlib.Numerals.{add-one}
use native.Mathlib.Omega.{arith}
use lib.IntN.{ℤ}
use lib.ListN.{length}
use borrow.Author.Tests.{ltb-false, eqb-true, eq-eqb}
use Rattle.laws.proofs.Deciding.{not-both, both_true, neither-true}
use Rattle.laws.proofs.Tests.{not-false}
use Rattle.laws.proofs.Searching.{NoneBelow}
use Rattle.sheet.specs.Points.{in_range, is_film, top_of}
use Rattle.sheet.specs.Rank.{rank}
use Rattle.sheet.specs.Edges.{edge_at, edges_in, drawing_of, top_height}
use Rattle.sheet.specs.Joining.{Follows}
use Rattle.sheet.specs.Sound.{SweepOrder, Sound}
use Rattle.sheet.specs.Turning.{plus, is_sign, turn, sooner}
use Rattle.sheet.specs.Kinds.{arriving, leaving, From, below, other_from, same_from}
use Rattle.sheet.specs.Corners.{four, corner_at, alternate, lower_apart, apart}
use Rattle.sheet.specs.Answers.{Call, not_whole, too_many, lists_differ, journal_short, top_falls, edge_fault, tangled, not_alternating, checked}
use Rattle.sheet.proofs.Ranks.{rank_below, rank_same}
use Rattle.sheet.proofs.Places.{place_is, height-of, film-of}
use Rattle.sheet.proofs.Tops.{end-heights}
use Rattle.sheet.proofs.AtAPlace.{kind-there, two-each}
use Rattle.sheet.proofs.Following.{goes_on, OnSide, by_side_lem, by-turning}
use Rattle.sheet.proofs.Checked.{Checked}
use Rattle.corner.proofs.Sides.{Sided}
use Rattle.corner.proofs.Corners.{apart-is, rule-is}
use Rattle.ends.specs.Fitting.{EndsFit}
use Rattle.ends.proofs.Fitting.{tail-in, head_in, film-in, ends-differ}
use Rattle.checks.proofs.EdgeFaults.{top-in-range, none_of}
use Rattle.checks.proofs.Answering.{ends-fit}
use Rattle.checks.proofs.AtCorners.{corner-sided}
use Rattle.checks.proofs.AnswerSheet.{LengthsFit, PlacesSound, Row, no_row, exactly}
use Rattle.checks.proofs.SoundList.{sound-list}
use Rattle.sheet.specs.Amounts.{numbers_per_edge, films, journal_numbers_per_edge, most_edges}

pub record AllPassed (c : Call) : Type 0 where
  pub whole : length c.list ≡ numbers_per_edge * edges_in c.list
  pub few : edges_in c.list ≤ most_edges
  pub polygons : c.polygons ≡ edges_in c.list
  pub sequences : c.sequences ≡ edges_in c.list
  pub turns : c.turns ≡ edges_in c.list
  pub journal : journal_numbers_per_edge * edges_in c.list ≤ c.journal
  pub tails_in_range : (e : ℕ) → e < edges_in c.list → in_range (edge_at c.list e).tail ≡ true
  pub heads_in_range : (e : ℕ) → e < edges_in c.list → in_range (edge_at c.list e).head ≡ true
  pub films_in_range : (e : ℕ) → e < edges_in c.list → is_film (edge_at c.list e).film ≡ true
  pub alternating : NoneBelow (not_alternating (drawing_of c.list)) (edges_in c.list)
  pub sheet : Checked (drawing_of c.list)

-- 5, 16, 6 and 7 are not given
module _ {s : List ℤ} (E : EndsFit s (edges_in s)) (none : NoneBelow (edge_fault s) (edges_in s)) where
  proper : (e : ℕ) → e < edges_in s → (drawing_of s).tail e ≡ (drawing_of s).head e → ⊥
  unfolding drawing_of
  proper e l q =
      let r : rank (edge_at s e).tail ≡ rank (edge_at s e).head = sym (height-of _ _ (film-in E e l)) ∙ ap (λ (p : ℕ). p / films) q ∙ height-of _ _ (film-in E e l) in
      not-both (rank_same _ _ (tail-in E e l) (head_in E e l) ∙ eq-eqb _ _ r) (ends-differ E e l)

  one_film : (e : ℕ) → e < edges_in s → (drawing_of s).film ((drawing_of s).tail e) ≡ (drawing_of s).film ((drawing_of s).head e)
  unfolding drawing_of
  one_film e l = film-of _ _ (film-in E e l) ∙ sym (film-of _ _ (film-in E e l))

  top-height : (e : ℕ) → e < edges_in s → rank (top_of (edge_at s e)) ≡ top_height (drawing_of s) e
  top-height e l = (end-heights s e (tail-in E e l) (head_in E e l) (film-in E e l)).top

  top_in : (e : ℕ) → e < edges_in s → in_range (top_of (edge_at s e)) ≡ true
  top_in e l = top-in-range _ (tail-in E e l) (head_in E e l)

  rises : (e : ℕ) → suc e < edges_in s → rank (top_of (edge_at s e)) ≤ rank (top_of (edge_at s (suc e)))
  unfolding top_falls
  rises e l = ltb-false _ _ (sym (rank_below _ _ (top_in (suc e) l) (top_in e (omega arith))) ∙ (none_of s (suc e) (none (suc e) l)).3)

  order : SweepOrder (drawing_of s)
  unfolding drawing_of
  order e l = rw add-one (omega (arith, top-height e (omega arith), top-height (suc e) (omega arith), rises e (omega arith)))

-- 17 is not given: at a place with four edges the first one met turning clockwise is told by its side
module _ {s : List ℤ} (E : EndsFit s (edges_in s)) (S : Sound (drawing_of s)) (none : NoneBelow (not_alternating (drawing_of s)) (edges_in s)) (p : ℕ) (whole : four (drawing_of s) p ≡ true) where
  sided : Sided (corner_at (drawing_of s) p)
  sided = corner-sided E S p whole

  alternates : alternate (corner_at (drawing_of s) p) ≡ true
  unfolding not_alternating tangled drawing_of
  alternates =
      let v = kind-there S arriving p (two-each S p whole arriving) below in
      let t : tangled (drawing_of s) p ≡ false = ap (tangled (drawing_of s)) (sym v.2) ∙ (neither-true (tangled (drawing_of s) ((drawing_of s).tail v.0)) _ (none v.0 v.1)).1 in
      not-false _ (rw whole at t)

  turns : (c d : From) → sooner (corner_at (drawing_of s) p arriving c) (corner_at (drawing_of s) p leaving d) (corner_at (drawing_of s) p leaving (other_from d)) ≡ same_from d (goes_on (apart (drawing_of s) p) c)
  unfolding apart
  turns c d = rw whole (rule-is (corner_at (drawing_of s) p) sided alternates c d)

pub sheet-checked : (c : Call) → edges_in c.list ≤ most_edges → PlacesSound c → NoneBelow (not_alternating (drawing_of c.list)) (edges_in c.list) → Checked (drawing_of c.list)
unfolding drawing_of
sheet-checked c few p none =
    let E = ends-fit c.list few p.edges in
    let S = sound-list c.list p.once p.level in
    record { flat = place_is; one_film = one_film E p.edges; proper = proper E p.edges; order = order E p.edges; sound = S; turning = turns E S none }

-- the numbers that 1 to 4 compare
module _ (c : Call) (l : LengthsFit c) where
  whole : length c.list ≡ numbers_per_edge * edges_in c.list
  unfolding not_whole edges_in
  whole = let h : length c.list % numbers_per_edge ≡ 0 = eqb-true _ _ (not-false _ l.whole) in omega arith

  few : edges_in c.list ≤ most_edges
  unfolding too_many
  few = ltb-false _ _ l.few

  one_each : (c.polygons ≡ edges_in c.list) × (c.sequences ≡ edges_in c.list) × (c.turns ≡ edges_in c.list)
  unfolding lists_differ
  one_each =
      let w = both_true _ _ (not-false _ l.one_each) in
      let v = both_true _ _ w.1 in (eqb-true _ _ w.0, eqb-true _ _ v.0, eqb-true _ _ v.1)

  long : journal_numbers_per_edge * edges_in c.list ≤ c.journal
  unfolding journal_short
  long = ltb-false _ _ l.long

all-passed : (c : Call) → Row c (Ok tt) → AllPassed c
all-passed c (no_row p a) =
    let l = p.lengths in
    let E = ends-fit c.list (few c l) p.edges in
    record {
      whole = whole c l;
      few = few c l;
      polygons = (one_each c l).0;
      sequences = (one_each c l).1;
      turns = (one_each c l).2;
      journal = long c l;
      tails_in_range = tail-in E;
      heads_in_range = head_in E;
      films_in_range = film-in E;
      alternating = a;
      sheet = sheet-checked c (few c l) p a;
    }

pub passed : (c : Call) → checked c ≡ Ok tt → AllPassed c
passed c q = all-passed c ((exactly c (Ok tt)).0 q)

-- 02 M-104 for every call that passes: the joining rule is the theory's, an edge goes on on its own side if it can and at a place that is apart on the other one ..
pub rule-by-sides : (c : Call) → checked c ≡ Ok tt → (e f : ℕ) → Follows (drawing_of c.list) e f ↔ OnSide (drawing_of c.list) e f
rule-by-sides c q e f = let K = (passed c q).sheet in (by_side_lem K.sound K.turning e f, by-turning K.sound K.turning e f)

-- .. and a place with four edges is apart where one turns anticlockwise from the way that its lower arriving edge came to its lower leaving one
pub apart-by-turn : (c : Call) → checked c ≡ Ok tt → (p : ℕ) → four (drawing_of c.list) p ≡ true → apart (drawing_of c.list) p ≡ is_sign (turn (corner_at (drawing_of c.list) p arriving below) (corner_at (drawing_of c.list) p leaving below)) plus
unfolding apart
apart-by-turn c q p whole = by ((exactly c (Ok tt)).0 q)
  where
    by : Row c (Ok tt) → (four (drawing_of c.list) p && lower_apart (corner_at (drawing_of c.list) p)) ≡ is_sign (turn (corner_at (drawing_of c.list) p arriving below) (corner_at (drawing_of c.list) p leaving below)) plus
    by (no_row r none) =
        let E = ends-fit c.list (few c r.lengths) r.edges in
        let S = sound-list c.list r.once r.level in
        rw whole (apart-is (corner_at (drawing_of c.list) p) (sided E S none p whole) (alternates E S none p whole))
