-- 5, 16, 6 and 7 at an edge. Tested by itself, or by the ranks of its ends and of the top before, an edge has a fault where the answer sheet says so.
-- An edge without a fault has two ends, both in the range, a film, and a top that does not fall.
use mathlib.Core.Path.{◌≡◌, refl, sym, ap, ◌∙◌}
use mathlib.Core.Bool.{Bool, true, false, cond, ◌||◌}
use mathlib.Core.List.{List}
use Prim.Native.Nat.{ℕ, zero, suc, ◌+◌, max}
use native.Mathlib.Numerals.{add-one}
use native.Mathlib.Omega.{arith}
use lib.Dec.{eqb, ltb}
use lib.IntN.{ℤ}
use borrow.Author.Tests.{le-ltb}
use Rattle.laws.proofs.Deciding.{neither-true}
use Rattle.laws.proofs.Searching.{NoneBelow}
use Rattle.sheet.specs.declared.Edge.{Edge}
use Rattle.sheet.specs.Points.{in_range, is_up, top_of}
use Rattle.sheet.specs.Rank.{rank}
use Rattle.sheet.specs.Edges.{edge_at}
use Rattle.sheet.specs.Answers.{past_range, film_past_range, equal_ends, top_falls, edge_fault}
use Rattle.sheet.proofs.Ranks.{rank_below, rank_same}
use Rattle.ends.proofs.EdgeRanks.{top-by-rank}
use Rattle.ends.proofs.Fitting.{in-range-of}
use Rattle.checks.specs.Faults.{end_past_range, film_past, limits_passed, ends_equal, fault_alone, top_before}
use Rattle.checks.specs.Stages.{edge_fault_alone}

-- with both ends in the range the top is, whichever it is
pub top-in-range : (e : Edge) → in_range e.tail ≡ true → in_range e.head ≡ true → in_range (top_of e) ≡ true
unfolding top_of
top-in-range e t h = by (is_up e)
  where
    by : (u : Bool) → in_range (cond u e.head e.tail) ≡ true
    by true = h
    by false = t

or_assoc : (a b c : Bool) → ((a || b) || c) ≡ (a || (b || c))
or_assoc true b c = refl
or_assoc false b c = refl

-- an edge by itself has a fault where the answer sheet says so
alone-fault : (s : List ℤ) (e : ℕ) → fault_alone (edge_at s e) ≡ edge_fault_alone s e
unfolding fault_alone limits_passed end_past_range past_range film_past_range equal_ends
alone-fault s e = or_assoc (end_past_range (edge_at s e)) (film_past (edge_at s e)) (ends_equal (edge_at s e))

-- what the tests answer of an edge that was read
module _ (s : List ℤ) (e : ℕ) {edge : Edge} {r : Bool} (read : edge ≡ edge_at s e) where
  told : (test : Edge → Bool) → r ≡ test edge → test (edge_at s e) ≡ r
  told test h = ap test (sym read) ∙ sym h

  pub alone-told : r ≡ fault_alone edge → edge_fault_alone s e ≡ r
  alone-told h = sym (alone-fault s e) ∙ told fault_alone h

  pub limits-told : r ≡ limits_passed edge → (past_range s e || film_past_range s e) ≡ r
  unfolding limits_passed past_range end_past_range film_past_range
  limits-told h = told limits_passed h

  pub past-told : r ≡ end_past_range edge → past_range s e ≡ r
  unfolding past_range end_past_range
  past-told h = told end_past_range h

  pub film-told : r ≡ film_past edge → film_past_range s e ≡ r
  unfolding film_past_range
  film-told h = told film_past h

  pub equal-told : r ≡ ends_equal edge → equal_ends s e ≡ r
  unfolding equal_ends
  equal-told h = told ends_equal h

-- 5, 16 and 6 one by one, and 7
pub none-alone : (s : List ℤ) (e : ℕ) → edge_fault_alone s e ≡ false → (past_range s e ≡ false) × (film_past_range s e ≡ false) × (equal_ends s e ≡ false)
none-alone s e none =
    let a = neither-true (past_range s e) _ none in
    let b = neither-true (film_past_range s e) _ a.1 in
    (a.0, b.0, b.1)

pub none_of : (s : List ℤ) (e : ℕ) → edge_fault s e ≡ false → (past_range s e ≡ false) × (film_past_range s e ≡ false) × (equal_ends s e ≡ false) × (top_falls s e ≡ false)
none_of s e none =
    let a = neither-true (past_range s e) _ none in
    let b = neither-true (film_past_range s e) _ a.1 in
    let d = neither-true (equal_ends s e) _ b.1 in
    (a.0, b.0, d.0, d.1)

pub past-fault : (s : List ℤ) (e : ℕ) → (past_range s e || film_past_range s e) ≡ true → edge_fault s e ≡ true
past-fault s e h = sym (or_assoc (past_range s e) (film_past_range s e) (equal_ends s e || top_falls s e)) ∙ rw h

top_in : (s : List ℤ) (e : ℕ) → past_range s e ≡ false → in_range (top_of (edge_at s e)) ≡ true
top_in s e h = let w = in-range-of s e h in top-in-range (edge_at s e) w.0 w.1

-- 7 by ranks: the edge before has no fault, so its top is in the range
falls-by-rank : (s : List ℤ) (e : ℕ) → NoneBelow (edge_fault s) e → past_range s e ≡ false → top_falls s e ≡ ltb (rank (top_of (edge_at s e))) (top_before s e)
unfolding top_falls top_before
falls-by-rank s zero none h = sym (le-ltb (rank (top_of (edge_at s 0))) 0 (omega arith))
falls-by-rank s (suc e) none h = rank_below (top_of (edge_at s (suc e))) (top_of (edge_at s e)) (top_in s (suc e) h) (top_in s e (none_of s e (none e (omega arith))).0)

-- 6 and 7 of an edge that has neither 5 nor 16, by the ranks of its ends and of the top before
module _ (s : List ℤ) (e : ℕ) (limits : (past_range s e || film_past_range s e) ≡ false) {edge : Edge} (read : edge ≡ edge_at s e) {t h u : ℕ} (tail-rank : t ≡ rank edge.tail) (head-rank : h ≡ rank edge.head) (top : u ≡ max t h) where
  within-limits : (past_range s e ≡ false) × (film_past_range s e ≡ false)
  within-limits = neither-true (past_range s e) (film_past_range s e) limits

  ends-in : (in_range (edge_at s e).tail ≡ true) × (in_range (edge_at s e).head ≡ true)
  ends-in = in-range-of s e within-limits.0

  top-rank : u ≡ rank (top_of (edge_at s e))
  top-rank = rw (top, tail-rank, head-rank, read) (sym (top-by-rank (edge_at s e) ends-in.0 ends-in.1))

  equal-by-rank : equal_ends s e ≡ eqb t h
  unfolding equal_ends
  equal-by-rank = rw (tail-rank, head-rank, read) (rank_same (edge_at s e).tail (edge_at s e).head ends-in.0 ends-in.1)

  pub fault-by-ranks : {l : ℕ} → l ≡ top_before s e → NoneBelow (edge_fault s) e → edge_fault s e ≡ (eqb t h || ltb u l)
  fault-by-ranks last none = rw (within-limits.0, within-limits.1, equal-by-rank, top-rank, last) (ap (λ (b : Bool). eqb t h || b) (falls-by-rank s e none within-limits.0))

  pub top-next : u ≡ top_before s (e + 1)
  unfolding top_before
  top-next = rw add-one top-rank
