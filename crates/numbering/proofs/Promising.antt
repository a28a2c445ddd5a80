-- Every outcome keeps the promise. A call ends in one of three ways: its checks refuse it, its sweep is done, or no row was free; only the second is
-- accepted, and there the numbers are those of crates/hartley (Running). The peak is exact since the run with as many rows as the peak, or more, is the
-- same to the last record, and the run with fewer ends without a free row.
use Rattle.std.specs.Prelude.{Ok, Err, Result, ⊤}
use mathlib.Core.Path.{◌≡◌, refl, sym, ap, ◌∙◌, subst}
use mathlib.Core.Logic.{⊎_elim}
use mathlib.Core.List.{List}
use Prim.Native.Nat.{ℕ, ◌+◌, ◌*◌, ◌≤◌, ◌<◌}
use native.Mathlib.Omega.{arith}
use lib.Dec.{eqb}
use lib.IntN.{ℤ}
use lib.ListN.{length, get_or}
use Rattle.laws.proofs.Deciding.{not-both}
use Rattle.laws.specs.Listing.{listed, list_of}
use Rattle.laws.proofs.Listing.{length-list_of, get_or-list_of}
use Rattle.sheet.specs.declared.Refusal.{Refusal}
use Rattle.sheet.specs.declared.Refusal.TheVariants.{NoRow}
use Rattle.sheet.specs.Edges.{edges_in, drawing_of}
use Rattle.sheet.specs.Numbering.{Numbering}
use Rattle.sheet.specs.Answers.{number_of, checked, answered, zeros, followed_by_zeros}
use Rattle.sheet.proofs.RowsEnough.{rows_enough, rows-enough}
use Rattle.checks.proofs.Passed.{passed}
use Rattle.steps.specs.Rows.{record_numbers}
use Rattle.steps.specs.SweepDown.{natural_part}
use Rattle.steps.specs.Swept.{rows_in, read_down, LacksRow, LacksItself}
use Rattle.steps.proofs.Reaching.{SameRun}
use Rattle.hartley.proofs.Results.Results as results
use Rattle.numbering.specs.Outcome.{Lent, Left, call_of, up, down, answer_by, leaves, outcome, left_as}
use Rattle.numbering.specs.Promised.{Promised, RowsEnough, fewer_rows, with_other_rows}
use Rattle.numbering.proofs.Leaving.{never-ten}
use Rattle.numbering.proofs.Renamed.{numbering-same}
use Rattle.numbering.proofs.Running.{few, ends, numbers, records-and-polygons, outcome-by}
use Rattle.steps.specs.declared.Halt.TheVariants.{NoFreeRow}
use Rattle.sheet.specs.declared.Numbered.{Numbered}
use Rattle.sheet.specs.Answers.{accepted}

-- the three ways, with what the outcome then is
pub data Way (l : Lent) : Type 0 where
  at-checks : (r : Refusal) → checked (call_of l) ≡ Err r → outcome l ≡ leaves l (Err r) → Way l
  done : (ok : checked (call_of l) ≡ Ok tt) (d : (up l).state.end ≡ Ok tt) → outcome l ≡ leaves l (accepted (down l).polygons (up l).state.peak (up l).state.records) → Way l
  no_row : (ok : checked (call_of l) ≡ Ok tt) (d : (up l).state.end ≡ Err NoFreeRow) → outcome l ≡ leaves l (Err (NoRow (up l).edge)) → Way l

pub way : (l : Lent) → Way l
way l = by (checked (call_of l)) refl
  where
    by : (x : Result ⊤ Refusal) → checked (call_of l) ≡ x → Way l
    by (Err r) e = at-checks r e (unfold outcome in ap (λ x. leaves l (answered x (answer_by l (up l).state.end))) e)
    by (Ok _) e = ⊎_elim (λ d. done e d (outcome-by l e d)) (λ d. no_row e d (outcome-by l e d)) (ends l e)

-- an accepted call is one whose sweep was done, and its numbers are the sweep's
record AcceptedBy (l : Lent) (polygons peak records : ℕ) : Type 0 where
  ok : checked (call_of l) ≡ Ok tt
  is_done : (up l).state.end ≡ Ok tt
  outcome_is : outcome l ≡ leaves l (accepted (down l).polygons (up l).state.peak (up l).state.records)
  polygons_are : (down l).polygons ≡ polygons
  peak_is : (up l).state.peak ≡ peak
  records_are : (up l).state.records ≡ records

not-accepted : {r : Refusal} {p k m : ℕ} → Err r ≡ accepted p k m → ⊥
not-accepted f = let z : ◌≡◌ {A = ℕ} 0 1 = cc in omega arith

-- two answers that are the same accept with the same numbers
accepted-same : {n m : Numbered} → ◌≡◌ {A = Result Numbered Refusal} (Ok n) (Ok m) → n ≡ m
accepted-same {n} f = ap numbers f
  where
    numbers : Result Numbered Refusal → Numbered
    numbers (Ok m) = m
    numbers (Err r) = n

accepted-by : (l : Lent) (p k m : ℕ) → (outcome l).answer ≡ accepted p k m → AcceptedBy l p k m
accepted-by l p k m q = by (way l)
  where
    by : Way l → AcceptedBy l p k m
    by (at-checks r n e) = absurd (not-accepted (sym (ap (λ x. x.answer) e) ∙ q))
    by (no_row ok d e) = absurd (not-accepted (sym (ap (λ x. x.answer) e) ∙ q))
    by (done ok d e) =
        let f = accepted-same (sym (ap (λ x. x.answer) e) ∙ q) in
        record { ok = ok; is_done = d; outcome_is = e; polygons_are = ap (λ n. n.polygons) f; peak_is = ap (λ n. n.peak) f; records_are = ap (λ n. n.records) f }

-- .. its list passed the checks, and its two lists are one number an edge long
pub record AcceptedCall (l : Lent) (x : Left (Result Numbered Refusal)) : Type 0 where
  pub passed_all : checked (call_of l) ≡ Ok tt
  pub polygons_long : length x.polygons ≡ edges_in l.list
  pub sequences_long : length x.sequences ≡ edges_in l.list

pub accepted-call : {l : Lent} {x : Left (Result Numbered Refusal)} {p k m : ℕ} → x ≡ outcome l → x.answer ≡ accepted p k m → AcceptedCall l x
accepted-call {l} {x} {p} {k} {m} e q =
    let A = accepted-by l p k m (sym (ap (λ y. y.answer) e) ∙ q) in
    rw (e, A.outcome_is) (record { passed_all = A.ok; polygons_long = length-list_of (λ i. ((down l).answers i).polygon) (edges_in l.list); sequences_long = length-list_of (λ i. natural_part ((down l).answers i).sequence) (edges_in l.list) })

module _ (l : Lent) where
  numbered : (polygons peak records : ℕ) → (outcome l).answer ≡ accepted polygons peak records → Numbering (drawing_of l.list) (λ e. get_or (outcome l).polygons e 0) (λ e. get_or (outcome l).sequences e 0) polygons
  unfolding drawing_of
  numbered p k m q =
      let A = accepted-by l p k m q in
      rw (A.outcome_is, ← A.polygons_are)
      (numbering-same (λ e h. get_or-list_of 0 (λ i. ((down l).answers i).polygon) (edges_in l.list) e h) (λ e h. get_or-list_of 0 (λ i. natural_part ((down l).answers i).sequence) (edges_in l.list) e h) (numbers l A.ok A.is_done))

  few_records : (polygons peak records : ℕ) → (outcome l).answer ≡ accepted polygons peak records → records + polygons ≤ 2 * edges_in l.list
  few_records p k m q = let A = accepted-by l p k m q in omega (arith, A.polygons_are, A.records_are, records-and-polygons l A.ok A.is_done)

  -- demand 3
  enough_there : checked (call_of l) ≡ Ok tt → 0 < edges_in l.list → RowsEnough l
  unfolding drawing_of
  enough_there ok some =
      let N = results.numbering-exists (passed (call_of l) ok).sheet (few l ok) in
      record { polygon = N.0; sequence = N.1; polygons = N.2; numbering = N.3; rows = rows_enough (drawing_of l.list) N.0; enough = rows-enough (drawing_of l.list) N.0 some }

  enough_rows : checked (call_of l) ≡ Ok tt → (E : RowsEnough l) → E.rows ≤ rows_in l.rows → (polygons : ℕ) × (peak : ℕ) × (records : ℕ) × ((outcome l).answer ≡ accepted polygons peak records)
  unfolding up drawing_of
  enough_rows ok E h =
      (_, _, _, ap (λ x. x.answer) (outcome-by l ok (results.enough-done (passed (call_of l) ok).sheet (few l ok) (rows_in l.rows) E.polygon E.numbering.shared E.rows E.enough h)))

  fewer_enough : checked (call_of l) ≡ Ok tt → (E : RowsEnough l) → fewer_rows E ≤ rows_in l.rows → (polygons : ℕ) × (peak : ℕ) × (records : ℕ) × ((outcome l).answer ≡ accepted polygons peak records)
  unfolding up drawing_of
  fewer_enough ok E h =
      (_, _, _, ap (λ x. x.answer) (outcome-by l ok (results.fewer-done (passed (call_of l) ok).sheet (few l ok) (rows_in l.rows) E.polygon E.numbering.shared E.rows E.enough h)))

  -- refusal 10
  lacks_row : (e : ℕ) → (outcome l).answer ≡ Err (NoRow e) → (checked (call_of l) ≡ Ok tt) × LacksRow (drawing_of l.list) (rows_in l.rows) e
  lacks_row e q = by (way l)
    where
      by : Way l → (checked (call_of l) ≡ Ok tt) × LacksRow (drawing_of l.list) (rows_in l.rows) e
      by (at-checks r n w) = let f : Err r ≡ Err (NoRow e) = sym (ap (λ x. x.answer) w) ∙ q in let g : r ≡ NoRow e = cc in absurd (not-both (ap (λ x. eqb (number_of x) 10) g) (never-ten (call_of l) n))
      by (done ok d w) = absurd (not-accepted (sym q ∙ ap (λ x. x.answer) w))
      by (no_row ok d w) =
          let f : Err (NoRow (up l).edge) ≡ Err (NoRow e) = sym (ap (λ x. x.answer) w) ∙ q in
          let g : (up l).edge ≡ e = cc in
          (ok, subst (λ (k : ℕ). LacksRow (drawing_of l.list) (rows_in l.rows) k) g (unfold up drawing_of in results.lacks_row (passed (call_of l) ok).sheet (few l ok) (rows_in l.rows) d))

  lacks_itself : (e : ℕ) → (outcome l).answer ≡ Err (NoRow e) → LacksItself (drawing_of l.list) (rows_in l.rows) e
  unfolding drawing_of
  lacks_itself e q = let L = lacks_row e q in results.lacks_itself (passed (call_of l) L.0).sheet (few l L.0) (rows_in l.rows) e L.1

  no-row-then : (e : ℕ) → checked (call_of l) ≡ Ok tt → LacksRow (drawing_of l.list) (rows_in l.rows) e → (outcome l).answer ≡ Err (NoRow e)
  unfolding up drawing_of
  no-row-then e ok L =
      let s = results.lacking-row (passed (call_of l) ok).sheet (few l ok) (rows_in l.rows) e L in
      ap (λ x. x.answer) (outcome-by l ok s.0) ∙ ap (λ k. Err (NoRow k)) s.1

  -- the peak is exact
  module _ (p k m : ℕ) (q : (outcome l).answer ≡ accepted p k m) (rows : List ℤ) where
    A : AcceptedBy l p k m
    A = accepted-by l p k m q

    peak_enough : k ≤ rows_in rows → outcome (with_other_rows l rows) ≡ left_as (outcome l).answer (outcome l).polygons (outcome l).sequences (outcome l).journal (zeros rows)
    unfolding up down drawing_of
    peak_enough h =
        let S = results.peak-suffices (passed (call_of l) A.ok).sheet (few l A.ok) (rows_in l.rows) (rows_in rows) A.is_done (omega (arith, h, A.peak_is)) in
        let o = outcome-by (with_other_rows l rows) A.ok (S.end ∙ A.is_done) in
        same o A.outcome_is S
      where
        same : outcome (with_other_rows l rows) ≡ leaves (with_other_rows l rows) (accepted (down (with_other_rows l rows)).polygons (up (with_other_rows l rows)).state.peak (up (with_other_rows l rows)).state.records) → outcome l ≡ leaves l (accepted (down l).polygons (up l).state.peak (up l).state.records) → SameRun (up (with_other_rows l rows)) (up l) → outcome (with_other_rows l rows) ≡ left_as (outcome l).answer (outcome l).polygons (outcome l).sequences (outcome l).journal (zeros rows)
        same o a S =
            o
            ∙ (λ i. left_as (accepted (read_down (S.journal i) (S.records i)).polygons (S.peak i) (S.records i)) (list_of (λ e. ((read_down (S.journal i) (S.records i)).answers e).polygon) (edges_in l.list)) (list_of (λ e. natural_part ((read_down (S.journal i) (S.records i)).answers e).sequence) (edges_in l.list)) (followed_by_zeros (listed (λ j. record_numbers (S.journal i j)) (S.records i)) (length l.journal)) (zeros rows))
            ∙ ap (λ z. left_as z.answer z.polygons z.sequences z.journal (zeros rows)) (sym a)

    fewer_refused : rows_in rows < k → (e : ℕ) × ((outcome (with_other_rows l rows)).answer ≡ Err (NoRow e))
    unfolding up drawing_of
    fewer_refused h =
        (_, ap (λ x. x.answer) (outcome-by (with_other_rows l rows) A.ok (results.fewer_refused (passed (call_of l) A.ok).sheet (few l A.ok) (rows_in l.rows) (rows_in rows) A.is_done (omega (arith, h, A.peak_is)))))

pub promised : (l : Lent) (x : Left (Result Numbered Refusal)) → x ≡ outcome l → Promised l x
promised l x e =
    subst (Promised l) (sym e)
    (record {
      outcome_is = refl;
      numbered = numbered l;
      few_records = few_records l;
      enough_there = enough_there l;
      enough_rows = enough_rows l;
      fewer_enough = fewer_enough l;
      peak_enough = peak_enough l;
      fewer_refused = fewer_refused l;
      lacks_row = lacks_row l;
      lacks_itself = lacks_itself l;
      no_row = no-row-then l;
    })
