-- The sheets of document 01 that are marked there, with the peaks that M-103 gives them, sheets of several films and with corners apart, worked by the numbering's own definition: one table, one test that is
-- computed over all of it. With three of them, engines that cannot keep the promise: for each a short refutation. With two, what demand 3 asks for is met.
use Rattle.std.specs.Prelude.{Result, Ok, Err}
use Prim.Native.Nat.{ℕ, ◌+◌, ◌-◌, ◌*◌, ◌/◌, ◌≤◌}
use mathlib.Core.Path.{◌≡◌, refl, sym, ap, ◌∙◌}
use mathlib.Core.Bool.{Bool, true, false, ◌&&◌}
use mathlib.Core.List.{List, [], ◌∷◌, map}
use lib.Dec.{eqb}
use lib.IntN.{pos}
use lib.ListN.{length, get_or, replicate}
use native.Mathlib.Omega.{arith}
use Rattle.sheet.specs.declared.Refusal.{Refusal}
use Rattle.sheet.specs.declared.Refusal.TheVariants.{NoRow}
use Rattle.sheet.specs.Edges.{drawing_of, top_height}
use Rattle.sheet.specs.Passing as passings
use Rattle.sheet.specs.Passing.{passing, Most}
use Rattle.sheet.specs.Answers as answers
use Rattle.sheet.specs.Answers.{number_of, place_of}
use Rattle.sheet.proofs.WorkedRows as worked
use Rattle.sheet.proofs.Drawn.{triangle, two_edges, square, two_peaks, touching, three_pairs, shared_side, side_twice, one_top, one_top_around, touching_films, two_pixels, crossing}
use Rattle.steps.specs.Rows as rows
use Rattle.numbering.specs.Outcome.{Lent, Left, outcome}
use Rattle.numbering.specs.Promised.{Promised, RowsEnough, fewer_rows}
use Rattle.numbering.proofs.Promising.{promised}
use Rattle.sheet.specs.Amounts.{numbers_per_edge, journal_numbers_per_edge}
use Rattle.steps.specs.Swept.{numbers_per_row, LacksItself}
use Rattle.sheet.specs.declared.Numbered.{Numbered}
use Rattle.sheet.specs.Answers as answers
use Rattle.numbering.proofs.Computing.{numbering_computed}

-- a sheet with the lengths of the slices lent, and what 01 says of it: refusal and place, or 0, 0; polygons, peak, records; the two lists
pub record Expected : Type 0 where
  list : List ℕ
  polygons_lent : ℕ
  sequences_lent : ℕ
  turns_lent : ℕ
  journal_lent : ℕ
  rows : ℕ
  refusal : ℕ
  place : ℕ
  polygons : ℕ
  peak : ℕ
  records : ℕ
  polygon : List ℕ
  sequence : List ℕ

abbrev pub lent_for : Expected → Lent
lent_for w =
    record {
      list = map pos w.list;
      polygons = replicate w.polygons_lent 77;
      sequences = replicate w.sequences_lent 77;
      turns = w.turns_lent;
      journal = replicate w.journal_lent (pos 77);
      rows = replicate (numbers_per_row * w.rows) (pos 77);
    }

abbrev same_list : List ℕ → List ℕ → Bool
same_list [] [] = true
same_list [] (b ∷ l) = false
same_list (a ∷ k) [] = false
same_list (a ∷ k) (b ∷ l) = eqb a b && same_list k l

abbrev same_answer : Result Numbered Refusal → Expected → Bool
same_answer (Ok n) w = eqb w.refusal 0 && (eqb n.polygons w.polygons && (eqb n.peak w.peak && eqb n.records w.records))
same_answer (Err r) w = eqb (number_of r) w.refusal && eqb (place_of r) w.place

right : Expected → Bool
right w = by (outcome (lent_for w))
  where
    by : Left (Result Numbered Refusal) → Bool
    by x = same_answer x.answer w && (same_list x.polygons w.polygon && same_list x.sequences w.sequence)

all_right : List Expected → Bool
all_right [] = true
all_right (w ∷ rest) = right w && all_right rest

-- lists of one number an edge, a journal of 8 numbers an edge
accepted : List ℕ → ℕ → ℕ → ℕ → ℕ → List ℕ → List ℕ → Expected
accepted list rows polygons peak records polygon sequence =
    record {
      list = list;
      polygons_lent = length list / numbers_per_edge;
      sequences_lent = length list / numbers_per_edge;
      turns_lent = length list / numbers_per_edge;
      journal_lent = journal_numbers_per_edge * (length list / numbers_per_edge);
      rows = rows;
      refusal = 0;
      place = 0;
      polygons = polygons;
      peak = peak;
      records = records;
      polygon = polygon;
      sequence = sequence;
    }

-- slices of these lengths, the two lists untouched
refused_with : List ℕ → ℕ → ℕ → ℕ → ℕ → ℕ → ℕ → ℕ → Expected
refused_with list polygons_lent sequences_lent turns_lent journal_lent rows number place =
    record {
      list = list;
      polygons_lent = polygons_lent;
      sequences_lent = sequences_lent;
      turns_lent = turns_lent;
      journal_lent = journal_lent;
      rows = rows;
      refusal = number;
      place = place;
      polygons = 0;
      peak = 0;
      records = 0;
      polygon = replicate polygons_lent 77;
      sequence = replicate sequences_lent 77;
    }

refused : List ℕ → ℕ → ℕ → ℕ → Expected
refused list rows number place = refused_with list (length list / numbers_per_edge) (length list / numbers_per_edge) (length list / numbers_per_edge) (journal_numbers_per_edge * (length list / numbers_per_edge)) rows number place

empty : Expected
empty = accepted [] 0 0 0 0 [] []

one-triangle : Expected
one-triangle = accepted triangle 1 1 1 4 (1 ∷ 1 ∷ 1 ∷ []) (1 ∷ 2 ∷ 0 ∷ [])

pub two-touching : Expected
two-touching =
    accepted touching 3 2 3 11 (2 ∷ 2 ∷ 1 ∷ 2 ∷ 2 ∷ 1 ∷ 1 ∷ []) (1 ∷ 2 ∷ 1 ∷ 3 ∷ 0 ∷ 2 ∷ 0 ∷ [])

one-row-for-two-peaks : Expected
one-row-for-two-peaks = refused two_peaks 1 10 1

three-pairs : Expected
three-pairs = accepted three_pairs 1 3 1 9 (3 ∷ 3 ∷ 2 ∷ 2 ∷ 1 ∷ 1 ∷ []) (1 ∷ 0 ∷ 1 ∷ 0 ∷ 1 ∷ 0 ∷ [])

-- 01's marked sheets, sheets of two films, 02's two pixels, and one for each refusal
sheets : List Expected
sheets =
    empty
    ∷ one-triangle
    ∷ accepted two_edges 1 1 1 3 (1 ∷ 1 ∷ []) (1 ∷ 0 ∷ [])
    ∷ accepted square 1 1 1 5 (1 ∷ 1 ∷ 1 ∷ 1 ∷ []) (2 ∷ 1 ∷ 3 ∷ 0 ∷ [])
    ∷ accepted two_peaks 2 1 2 7 (1 ∷ 1 ∷ 1 ∷ 1 ∷ []) (1 ∷ 2 ∷ 3 ∷ 0 ∷ [])
    ∷ one-row-for-two-peaks
    ∷ two-touching
    ∷ three-pairs
    ∷ accepted shared_side 2 2 2 10 (2 ∷ 1 ∷ 2 ∷ 2 ∷ 2 ∷ 1 ∷ 1 ∷ 1 ∷ []) (2 ∷ 2 ∷ 1 ∷ 3 ∷ 0 ∷ 1 ∷ 3 ∷ 0 ∷ [])
    ∷ accepted one_top 1 2 1 6 (2 ∷ 2 ∷ 1 ∷ 1 ∷ []) (1 ∷ 0 ∷ 1 ∷ 0 ∷ [])
    ∷ accepted one_top_around 2 2 2 6 (1 ∷ 2 ∷ 2 ∷ 1 ∷ []) (1 ∷ 1 ∷ 0 ∷ 0 ∷ [])
    ∷ accepted touching_films 3 2 3 11 (2 ∷ 2 ∷ 1 ∷ 2 ∷ 2 ∷ 1 ∷ 1 ∷ []) (1 ∷ 2 ∷ 1 ∷ 3 ∷ 0 ∷ 2 ∷ 0 ∷ [])
    ∷ accepted two_pixels 2 2 2 10 (2 ∷ 1 ∷ 2 ∷ 2 ∷ 2 ∷ 1 ∷ 1 ∷ 1 ∷ []) (2 ∷ 2 ∷ 1 ∷ 3 ∷ 0 ∷ 1 ∷ 3 ∷ 0 ∷ [])
    ∷ refused (0 ∷ 0 ∷ 4 ∷ []) 1 1 0
    ∷ refused_with (replicate (numbers_per_edge * 4097) 0) 0 0 0 0 0 2 0
    ∷ refused_with triangle 2 3 3 24 1 3 0
    ∷ refused_with triangle 3 4 3 24 1 3 0
    ∷ refused_with triangle 3 3 2 24 1 3 0
    ∷ refused_with triangle 3 3 3 23 1 4 0
    ∷ refused (0 ∷ 0 ∷ 4 ∷ 2 ∷ 0 ∷ 4 ∷ 2 ∷ 1 ∷ 1000001 ∷ 0 ∷ []) 1 5 1
    ∷ refused (0 ∷ 0 ∷ 4 ∷ 2 ∷ 0 ∷ 4 ∷ 2 ∷ 0 ∷ 0 ∷ 256 ∷ []) 1 16 1
    ∷ refused (5 ∷ 5 ∷ 5 ∷ 5 ∷ 0 ∷ []) 1 6 0
    ∷ refused (4 ∷ 2 ∷ 1 ∷ 5 ∷ 0 ∷ 0 ∷ 0 ∷ 4 ∷ 2 ∷ 0 ∷ 1 ∷ 5 ∷ 0 ∷ 0 ∷ 0 ∷ []) 1 7 1
    ∷ refused (0 ∷ 0 ∷ 4 ∷ 2 ∷ 0 ∷ triangle) 1 8 1
    ∷ refused side_twice 2 8 3
    ∷ refused (0 ∷ 0 ∷ 4 ∷ 2 ∷ 0 ∷ 4 ∷ 2 ∷ 1 ∷ 5 ∷ 0 ∷ []) 1 9 0
    ∷ refused (crossing 0) 0 17 1
    ∷ []

-- the top of the triangle's first edge
triangle_place : ℕ
triangle_place = top_height (drawing_of (lent_for one-triangle).list) 0

-- all of the table, and of four sheets what the laws below need, and the turn list of the touching one (crates/assembly)
pub record AllWorked : Type 0 where
  right_all : all_right sheets ≡ true
  of_empty : (outcome (lent_for empty)).answer ≡ answers.accepted 0 0 0
  of_triangle : (outcome (lent_for one-triangle)).answer ≡ answers.accepted 1 1 4
  lists_of_triangle : (outcome (lent_for one-triangle)).polygons ≡ 1 ∷ 1 ∷ 1 ∷ []
  untouched_triangle : (lent_for one-triangle).polygons ≡ 77 ∷ 77 ∷ 77 ∷ []
  pub lists_of_touching : (outcome (lent_for two-touching)).polygons ≡ 2 ∷ 2 ∷ 1 ∷ 2 ∷ 2 ∷ 1 ∷ 1 ∷ []
  pub sequences_of_touching : (outcome (lent_for two-touching)).sequences ≡ 1 ∷ 2 ∷ 1 ∷ 3 ∷ 0 ∷ 2 ∷ 0 ∷ []
  lists_of_pairs : (outcome (lent_for three-pairs)).polygons ≡ 3 ∷ 3 ∷ 2 ∷ 2 ∷ 1 ∷ 1 ∷ []
  of_pairs : (outcome (lent_for three-pairs)).answer ≡ answers.accepted 3 1 9
  pub of_touching : (outcome (lent_for two-touching)).answer ≡ answers.accepted 2 3 11
  of_one_row : (outcome (lent_for one-row-for-two-peaks)).answer ≡ Err (NoRow 1)
  passing_triangle : passing (drawing_of (lent_for one-triangle).list) triangle_place ≡ 2

pub all-worked : AllWorked
unfolding
    all_right
    right
    accepted
    refused
    refused_with
    one-row-for-two-peaks
    three-pairs
    sheets
    empty
    one-triangle
    two-touching
    triangle_place
    passings.passing
    numbering_computed
all-worked =
    record {
      right_all = refl;
      of_empty = refl;
      of_triangle = refl;
      lists_of_triangle = refl;
      untouched_triangle = refl;
      lists_of_touching = refl;
      sequences_of_touching = refl;
      lists_of_pairs = refl;
      of_pairs = refl;
      of_touching = refl;
      of_one_row = refl;
      passing_triangle = refl;
    }

-- the rows that are enough for the touching sheet, and the fewer ones
touching-rows : RowsEnough (lent_for two-touching)
unfolding two-touching accepted
touching-rows =
    let N = (promised (lent_for two-touching) (outcome (lent_for two-touching)) refl).numbered 2 3 11 all-worked.of_touching in
    record {
      polygon = λ e. get_or (2 ∷ 2 ∷ 1 ∷ 2 ∷ 2 ∷ 1 ∷ 1 ∷ []) e 0;
      sequence = λ e. get_or (outcome (lent_for two-touching)).sequences e 0;
      polygons = 2;
      numbering = rw all-worked.lists_of_touching at N;
      rows = 8;
      enough = (worked.table).of_touching.are_enough;
    }

five-rows : fewer_rows touching-rows ≡ 5
unfolding two-touching accepted touching-rows
five-rows = let f = (worked.table).of_touching.no_others touching-rows.enough in λ i. 1 + f.2 i * (f.0 i - 2)

-- the second edge of the two peaks has no row itself, while the one that is lent is in use
two-peaks-lack : LacksItself (drawing_of (map pos two_peaks)) 1 1
unfolding one-row-for-two-peaks refused refused_with
two-peaks-lack = (promised (lent_for one-row-for-two-peaks) (outcome (lent_for one-row-for-two-peaks)) refl).lacks_itself 1 all-worked.of_one_row

-- engines that cannot keep the promise
module _ (engine : Lent → Left (Result Numbered Refusal)) (keeps : (l : Lent) → Promised l (engine l)) where
  -- one that refuses everything
  refuses-everything : ((l : Lent) → (r : Refusal) × ((engine l).answer ≡ Err r)) → ⊥
  refuses-everything f =
      let v = f (lent_for one-triangle) in
      let e : Err v.0 ≡ answers.accepted 1 1 4 = sym v.1 ∙ ap (λ x. x.answer) (keeps (lent_for one-triangle)).outcome_is ∙ all-worked.of_triangle in
      let z : ◌≡◌ {A = ℕ} 0 1 = cc in
      omega arith

  abbrev polygons_of : Result Numbered Refusal → ℕ
  polygons_of (Ok n) = n.polygons
  polygons_of (Err r) = 0

  -- one that gives every sheet one answer
  one_answer : (a : Result Numbered Refusal) → ((l : Lent) → (engine l).answer ≡ a) → ⊥
  one_answer a f =
      let e : ◌≡◌ {A = ℕ} 0 1 = ap polygons_of (sym all-worked.of_empty ∙ sym (ap (λ x. x.answer) (keeps (lent_for empty)).outcome_is) ∙ f (lent_for empty) ∙ sym (f (lent_for one-triangle)) ∙ ap (λ x. x.answer) (keeps (lent_for one-triangle)).outcome_is ∙ all-worked.of_triangle) in
      omega arith

  -- one that writes nothing
  writes_nothing : ((l : Lent) → (engine l).polygons ≡ l.polygons) → ⊥
  writes_nothing f =
      let e : ◌≡◌ {A = List ℕ} (77 ∷ 77 ∷ 77 ∷ []) (1 ∷ 1 ∷ 1 ∷ []) = sym all-worked.untouched_triangle ∙ sym (f (lent_for one-triangle)) ∙ ap (λ x. x.polygons) (keeps (lent_for one-triangle)).outcome_is ∙ all-worked.lists_of_triangle in
      let z : ◌≡◌ {A = ℕ} 77 1 = ap (λ l. get_or l 0 0) e in
      omega arith

  -- one that is right on the first outline and gives all other edges of a sheet one polygon number, or all other edges one sequence number
  abbrev Fakes : (Lent → Left (Result Numbered Refusal) → ℕ → ℕ) → ℕ → Type 0
  Fakes given c = (l : Lent) (p k m : ℕ) → (engine l).answer ≡ answers.accepted p k m → (e : ℕ) → (get_or (outcome l).polygons e 0 ≡ 1 → ⊥) → given l (engine l) e ≡ c

  fakes-the-polygons : (c : ℕ) → Fakes (λ l x e. get_or x.polygons e 0) c → ⊥
  fakes-the-polygons c f =
      let l = lent_for three-pairs in
      let k = (keeps l).outcome_is in
      let faked = f l 3 1 9 (ap (λ x. x.answer) k ∙ all-worked.of_pairs) in
      let right : (e : ℕ) → get_or (engine l).polygons e 0 ≡ get_or (3 ∷ 3 ∷ 2 ∷ 2 ∷ 1 ∷ 1 ∷ []) e 0 = λ e. ap (λ x. get_or x.polygons e 0) k ∙ ap (λ s. get_or s e 0) all-worked.lists_of_pairs in
      let other : (e : ℕ) → get_or (outcome l).polygons e 0 ≡ get_or (3 ∷ 3 ∷ 2 ∷ 2 ∷ 1 ∷ 1 ∷ []) e 0 = λ e. ap (λ s. get_or s e 0) all-worked.lists_of_pairs in
      let a : 3 ≡ c = sym (right 0) ∙ faked 0 (λ h. omega (arith, h, other 0)) in
      let b : 2 ≡ c = sym (right 2) ∙ faked 2 (λ h. omega (arith, h, other 2)) in
      omega arith

  fakes-the-sequences : (c : ℕ) → Fakes (λ l x e. get_or x.sequences e 0) c → ⊥
  fakes-the-sequences c f =
      let l = lent_for two-touching in
      let k = (keeps l).outcome_is in
      let faked = f l 2 3 11 (ap (λ x. x.answer) k ∙ all-worked.of_touching) in
      let right : (e : ℕ) → get_or (engine l).sequences e 0 ≡ get_or (1 ∷ 2 ∷ 1 ∷ 3 ∷ 0 ∷ 2 ∷ 0 ∷ []) e 0 = λ e. ap (λ x. get_or x.sequences e 0) k ∙ ap (λ s. get_or s e 0) all-worked.sequences_of_touching in
      let other : (e : ℕ) → get_or (outcome l).polygons e 0 ≡ get_or (2 ∷ 2 ∷ 1 ∷ 2 ∷ 2 ∷ 1 ∷ 1 ∷ []) e 0 = λ e. ap (λ s. get_or s e 0) all-worked.lists_of_touching in
      let a : 1 ≡ c = sym (right 0) ∙ faked 0 (λ h. omega (arith, h, other 0)) in
      let b : 2 ≡ c = sym (right 1) ∙ faked 1 (λ h. omega (arith, h, other 1)) in
      omega arith

  -- one that has the same peak for all it accepts: 0, or any other
  invents-a-peak : (k : ℕ) → ((l : Lent) (p j m : ℕ) → (engine l).answer ≡ answers.accepted p j m → j ≡ k) → ⊥
  invents-a-peak k f =
      let a : 1 ≡ k = f (lent_for one-triangle) 1 1 4 (ap (λ x. x.answer) (keeps (lent_for one-triangle)).outcome_is ∙ all-worked.of_triangle) in
      let b : 3 ≡ k = f (lent_for two-touching) 2 3 11 (ap (λ x. x.answer) (keeps (lent_for two-touching)).outcome_is ∙ all-worked.of_touching) in
      omega arith

  -- one that gives C for the peak: two edges pass the triangle's places, and it needs one row
  C-for-the-peak : ((l : Lent) (p j m : ℕ) → (engine l).answer ≡ answers.accepted p j m → Most (passing (drawing_of l.list)) j) → ⊥
  C-for-the-peak f =
      let most = f (lent_for one-triangle) 1 1 4 (ap (λ x. x.answer) (keeps (lent_for one-triangle)).outcome_is ∙ all-worked.of_triangle) in
      let a : passing (drawing_of (lent_for one-triangle).list) triangle_place ≤ 1 = most.bound triangle_place in
      omega (arith, a, all-worked.passing_triangle)
