-- The table of the answer sheet, row by row: what is true of a call that gets an answer. Whatever `checked` answers, one row of the table gives it
-- (`row`), and whichever row holds, its answer is what `checked` gives (`given`). So each refusal is given exactly when its row holds, and none is
-- given exactly when no row of a refusal holds.
use Rattle.std.specs.Prelude.{Result, ⊤, Ok, Err}
use mathlib.Core.Path.{◌≡◌, refl, sym, ◌∙◌, subst}
use mathlib.Core.Bool.{Bool, true, false, cond, ◌||◌}
use mathlib.Core.List.{List}
use mathlib.Core.Logic.{◌↔◌}
use Prim.Native.Nat.{ℕ, ◌≤◌, ◌<◌}
use native.Mathlib.Omega.{arith}
use lib.Dec.{ltb}
use lib.IntN.{ℤ}
use borrow.Author.Tests.{ltb-true, ltb-false}
use Rattle.laws.specs.Counting.{first}
use Rattle.laws.proofs.Deciding.{not-both}
use Rattle.laws.proofs.First.{first_holds, first-least}
use Rattle.laws.proofs.Searching.{NoneBelow, found_first, found_none}
use Rattle.sheet.specs.declared.Refusal.{Refusal}
use Rattle.sheet.specs.declared.Refusal.TheVariants.{NotWhole, TooMany, ListsDiffer, JournalShort, PastRange, FilmPastRange, EqualEnds, TopFalls, Repeated, Uneven, NotAlternating}
use Rattle.sheet.specs.Edges.{edges_in, drawing_of}
use Rattle.sheet.specs.Answers.{Call, not_whole, too_many, lists_differ, journal_short, past_range, film_past_range, equal_ends, top_falls, edge_fault, fault_of, repeats, uneven, not_alternating, refuse_if, refuse_first, checked}
use Rattle.checks.specs.Stages.{places_checked}
use Rattle.checks.proofs.Answering.{refuse-here, refuse-not}

-- none of 1 to 4
pub record LengthsFit (c : Call) : Type 0 where
  pub whole : not_whole c ≡ false
  pub few : too_many c ≡ false
  pub one_each : lists_differ c ≡ false
  pub long : journal_short c ≡ false

-- e is the first of n edges that the test holds of
pub record IsFirst (test : ℕ → Bool) (n e : ℕ) : Type 0 where
  pub is_edge : e < n
  pub holds : test e ≡ true
  pub before : NoneBelow test e

-- none of 1 to 9 and 16
pub record PlacesSound (c : Call) : Type 0 where
  pub lengths : LengthsFit c
  pub edges : NoneBelow (edge_fault c.list) (edges_in c.list)
  pub once : NoneBelow (repeats (drawing_of c.list)) (edges_in c.list)
  pub level : NoneBelow (uneven (drawing_of c.list)) (edges_in c.list)

pub data Row (c : Call) : Result ⊤ Refusal → Type 0 where
  row-1 : not_whole c ≡ true → Row c (Err NotWhole)
  row-2 : not_whole c ≡ false → too_many c ≡ true → Row c (Err TooMany)
  row-3 : not_whole c ≡ false → too_many c ≡ false → lists_differ c ≡ true → Row c (Err ListsDiffer)
  row-4 : not_whole c ≡ false → too_many c ≡ false → lists_differ c ≡ false → journal_short c ≡ true → Row c (Err JournalShort)
  row-5 : {e : ℕ} → LengthsFit c → IsFirst (edge_fault c.list) (edges_in c.list) e → past_range c.list e ≡ true → Row c (Err (PastRange e))
  row-16 : {e : ℕ} → LengthsFit c → IsFirst (edge_fault c.list) (edges_in c.list) e → past_range c.list e ≡ false → film_past_range c.list e ≡ true → Row c (Err (FilmPastRange e))
  row-6 : {e : ℕ} → LengthsFit c → IsFirst (edge_fault c.list) (edges_in c.list) e → past_range c.list e ≡ false → film_past_range c.list e ≡ false → equal_ends c.list e ≡ true → Row c (Err (EqualEnds e))
  row-7 : {e : ℕ} → LengthsFit c → IsFirst (edge_fault c.list) (edges_in c.list) e → past_range c.list e ≡ false → film_past_range c.list e ≡ false → equal_ends c.list e ≡ false → top_falls c.list e ≡ true → Row c (Err (TopFalls e))
  row-8 : {e : ℕ} → LengthsFit c → NoneBelow (edge_fault c.list) (edges_in c.list) → IsFirst (repeats (drawing_of c.list)) (edges_in c.list) e → Row c (Err (Repeated e))
  row-9 : {e : ℕ} → LengthsFit c → NoneBelow (edge_fault c.list) (edges_in c.list) → NoneBelow (repeats (drawing_of c.list)) (edges_in c.list) → IsFirst (uneven (drawing_of c.list)) (edges_in c.list) e → Row c (Err (Uneven e))
  row-17 : {e : ℕ} → PlacesSound c → IsFirst (not_alternating (drawing_of c.list)) (edges_in c.list) e → Row c (Err (NotAlternating e))
  no_row : PlacesSound c → NoneBelow (not_alternating (drawing_of c.list)) (edges_in c.list) → Row c (Ok tt)

-- a test decides between a refusal and the rest
module _ (P : Result ⊤ Refusal → Type 0) where
  tried : (t : Bool) {r : Refusal} {rest : Result ⊤ Refusal} → (t ≡ true → P (Err r)) → (t ≡ false → P rest) → P (refuse_if t r rest)
  tried true a b = a refl
  tried false a b = b refl

  tried-all : (test : ℕ → Bool) (n : ℕ) (refusal : ℕ → Refusal) {rest : Result ⊤ Refusal} → ((e : ℕ) → IsFirst test n e → P (Err (refusal e))) → (NoneBelow test n → P rest) → P (refuse_first test n refusal rest)
  tried-all test n refusal a b = tried (ltb (first test n) n) here (λ h. b (λ k l. let m : n ≤ first test n = ltb-false _ _ h in first-least test n k (omega arith)))
    where
      here : ltb (first test n) n ≡ true → P (Err (refusal (first test n)))
      here h = let l : first test n < n = ltb-true _ _ h in a (first test n) (record { is_edge = l; holds = first_holds test n l; before = first-least test n })

-- which of 5, 16, 6 and 7 the first edge with one of them has
fault-row : (c : Call) (e : ℕ) → LengthsFit c → IsFirst (edge_fault c.list) (edges_in c.list) e → Row c (Err (fault_of c.list e))
fault-row c e l f = by (past_range s e) (film_past_range s e) (equal_ends s e) (top_falls s e) refl refl refl refl f.holds
  where
    s : List ℤ
    s = c.list

    by : (w x y z : Bool) → past_range s e ≡ w → film_past_range s e ≡ x → equal_ends s e ≡ y → top_falls s e ≡ z → (w || (x || (y || z))) ≡ true → Row c (Err (cond w (PastRange e) (cond x (FilmPastRange e) (cond y (EqualEnds e) (TopFalls e)))))
    by true x y z p o q r h = row-5 l f p
    by false true y z p o q r h = row-16 l f p o
    by false false true z p o q r h = row-6 l f p o q
    by false false false true p o q r h = row-7 l f p o q r
    by false false false false p o q r h = absurd (not-both h refl)

pub row : (c : Call) → Row c (checked c)
unfolding checked
row c =
    tried (Row c) (not_whole c) row-1 (λ w.
    tried (Row c) (too_many c) (row-2 w) (λ m.
    tried (Row c) (lists_differ c) (row-3 w m) (λ o.
    tried (Row c) (journal_short c) (row-4 w m o) (λ j.
    let l : LengthsFit c = record { whole = w; few = m; one_each = o; long = j } in
    tried-all (Row c) (edge_fault c.list) (edges_in c.list) (fault_of c.list) (λ e f. fault-row c e l f) (λ f.
    tried-all (Row c) (repeats (drawing_of c.list)) (edges_in c.list) Repeated (λ e h. row-8 l f h) (λ r.
    tried-all (Row c) (uneven (drawing_of c.list)) (edges_in c.list) Uneven (λ e h. row-9 l f r h) (λ u.
    let p : PlacesSound c = record { lengths = l; edges = f; once = r; level = u } in
    tried-all (Row c) (not_alternating (drawing_of c.list)) (edges_in c.list) NotAlternating (λ e h. row-17 p h) (λ a.
    no_row p a))))))))

-- the refusal at the first of n edges, and none
module _ (test : ℕ → Bool) (n : ℕ) (refusal : ℕ → Refusal) (rest : Result ⊤ Refusal) where
  refused-at : {e : ℕ} → IsFirst test n e → refuse_first test n refusal rest ≡ Err (refusal e)
  refused-at f = sym (refuse-here test n _ (found_first test f.before f.is_edge f.holds) refusal rest f.is_edge)

  not-refused : NoneBelow test n → refuse_first test n refusal rest ≡ rest
  not-refused h = sym (refuse-not test n n (found_none test h (omega arith)) refusal rest (omega arith))

-- what is tried after 1 to 4, and after 5, 16, 6 and 7
module _ {c : Call} (l : LengthsFit c) where
  fault-given : {e : ℕ} → IsFirst (edge_fault c.list) (edges_in c.list) e → checked c ≡ Err (fault_of c.list e)
  unfolding checked
  fault-given f = rw (l.whole, l.few, l.one_each, l.long) (refused-at _ _ (fault_of c.list) _ f)

  places-given : NoneBelow (edge_fault c.list) (edges_in c.list) → checked c ≡ places_checked c.list
  unfolding checked places_checked
  places-given f = rw (l.whole, l.few, l.one_each, l.long) (not-refused _ _ (fault_of c.list) _ f)

given : {c : Call} {a : Result ⊤ Refusal} → Row c a → checked c ≡ a
unfolding checked places_checked
given (row-1 w) = rw w
given (row-2 w m) = rw (w, m)
given (row-3 w m o) = rw (w, m, o)
given (row-4 w m o j) = rw (w, m, o, j)
given (row-5 l f p) = fault-given l f ∙ rw p
given (row-16 l f p o) = fault-given l f ∙ rw (p, o)
given (row-6 l f p o q) = fault-given l f ∙ rw (p, o, q)
given (row-7 l f p o q t) = fault-given l f ∙ rw (p, o, q)
given (row-8 l f h) = places-given l f ∙ refused-at _ _ Repeated _ h
given (row-9 l f r h) = places-given l f ∙ not-refused _ _ Repeated _ r ∙ refused-at _ _ Uneven _ h
given (row-17 p h) = places-given p.lengths p.edges ∙ not-refused _ _ Repeated _ p.once ∙ not-refused _ _ Uneven _ p.level ∙ refused-at _ _ NotAlternating _ h
given (no_row p a) = places-given p.lengths p.edges ∙ not-refused _ _ Repeated _ p.once ∙ not-refused _ _ Uneven _ p.level ∙ not-refused _ _ NotAlternating _ a

pub exactly : (c : Call) (a : Result ⊤ Refusal) → (checked c ≡ a) ↔ Row c a
exactly c a = (λ q. subst (Row c) q (row c), given)

pub passed-exactly : (c : Call) → (checked c ≡ Ok tt) ↔ ((r : Refusal) → Row c (Err r) → ⊥)
passed-exactly c = (λ q r h. let p = given h in let z : ◌≡◌ {A = ℕ} 0 1 = cc in omega arith, none (checked c) (row c))
  where
    none : (a : Result ⊤ Refusal) → Row c a → ((r : Refusal) → Row c (Err r) → ⊥) → a ≡ Ok tt
    none (Ok _) h n = refl
    none (Err r) h n = absurd (n r h)
