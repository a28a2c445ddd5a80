-- `checked` by stages: the three of them in a row give its answer. Then each stage's answer where the code has compared the lengths, or has the first
-- edge of 5, 16, 6 or 7, of 8, of 9 and of 17; and what a stage that passes says of the list.
use Rattle.std.specs.Prelude.{Result, ⊤, Ok, Err, Option, None, Some, IfSome}
use mathlib.Core.Path.{◌≡◌, refl, sym, ap, ◌∙◌}
use mathlib.Core.Bool.{Bool, true, false, not, cond}
use mathlib.Core.List.{List}
use Prim.Native.Nat.{ℕ, ◌*◌, ◌/◌, ◌%◌, ◌≤◌, ◌<◌}
use native.Mathlib.Omega.{arith}
use lib.Dec.{eqb, ltb}
use lib.IntN.{ℤ}
use lib.ListN.{length}
use borrow.Author.Tests.{lt-ltb, le-ltb, ltb-false, eq-eqb, ne_eqb}
use Rattle.laws.specs.Counting.{first, IsFirst}
use Rattle.laws.proofs.First.{first-least, first-none}
use Rattle.laws.proofs.Searching.{NoneBelow}
use Rattle.sheet.specs.declared.Refusal.{Refusal}
use Rattle.sheet.specs.declared.Refusal.TheVariants.{NotWhole, TooMany, ListsDiffer, JournalShort, PastRange, FilmPastRange, EqualEnds, TopFalls, Repeated, Uneven, NotAlternating}
use Rattle.sheet.specs.Edges.{edges_in, drawing_of}
use Rattle.sheet.specs.Answers.{Call, not_whole, too_many, lists_differ, journal_short, past_range, film_past_range, equal_ends, edge_fault, fault_of, repeats, uneven, not_alternating, refuse_if, refuse_first, checked}
use Rattle.checks.specs.declared.places.AtFault.{AtFault}
use Rattle.checks.specs.Stages.{and_then, list_checked, lengths_checked, edges_checked, edge_fault_alone, edges_alone_checked, places_checked}
use Rattle.ends.specs.Fitting.{EndsFit}
use Rattle.checks.specs.Places.{FirstAtFault}
use Rattle.checks.specs.Corners.{corners_seen}
use Rattle.checks.proofs.EdgeFaults.{none-alone, none_of}
use Rattle.sheet.specs.Amounts.{numbers_per_edge, journal_numbers_per_edge, most_edges}

pub by-stages : (c : Call) → and_then (lengths_checked c) (and_then (edges_checked c.list) (places_checked c.list)) ≡ checked c
unfolding checked lengths_checked list_checked edges_checked places_checked not_whole too_many
by-stages c = by (not_whole c) (too_many c) (lists_differ c) (journal_short c) (ltb (first (edge_fault c.list) (edges_in c.list)) (edges_in c.list)) (fault_of c.list (first (edge_fault c.list) (edges_in c.list))) (places_checked c.list)
  where
    by : (a b d e f : Bool) (r : Refusal) (next : Result ⊤ Refusal) → and_then (and_then (refuse_if a NotWhole (refuse_if b TooMany (Ok tt))) (refuse_if d ListsDiffer (refuse_if e JournalShort (Ok tt)))) (and_then (refuse_if f r (Ok tt)) next) ≡ refuse_if a NotWhole (refuse_if b TooMany (refuse_if d ListsDiffer (refuse_if e JournalShort (refuse_if f r next))))
    by true b d e f r next = refl
    by false true d e f r next = refl
    by false false true e f r next = refl
    by false false false true f r next = refl
    by false false false false true r next = refl
    by false false false false false r next = refl

-- a stage that refuses, and one that passes
pub then-refused : {a : Result ⊤ Refusal} {r : Refusal} (next : Result ⊤ Refusal) → a ≡ Err r → Err r ≡ and_then a next
then-refused next q = rw q

pub then-passed : {a : Result ⊤ Refusal} (next : Result ⊤ Refusal) → a ≡ Ok tt → next ≡ and_then a next
then-passed next q = rw q

-- the first number that passes a test is one of those tried
pub first-within : (test : ℕ → Bool) (n : ℕ) (r : Option ℕ) → IsFirst test n r → IfSome r (λ e. e < n)
first-within test n None h = tt
first-within test n (Some e) h = h.0

-- what is tried over the list
module _ (test : ℕ → Bool) (n f : ℕ) (found : f ≡ first test n) where
  pub refuse-here : (refusal : ℕ → Refusal) (rest : Result ⊤ Refusal) → f < n → Err (refusal f) ≡ refuse_first test n refusal rest
  refuse-here refusal rest l = rw (lt-ltb (first test n) n (omega (arith, found))) (ap (λ (e : ℕ). Err (refusal e)) found)

  pub refuse-not : (refusal : ℕ → Refusal) (rest : Result ⊤ Refusal) → n ≤ f → rest ≡ refuse_first test n refusal rest
  refuse-not refusal rest l = rw (le-ltb (first test n) n (omega (arith, found)))

-- 3 and 4, of a list that passes 1 and 2
module _ (s : List ℤ) (polygons sequences turns journal : ℕ) (list : list_checked s ≡ Ok tt) where
  abbrev call : Call
  call = record { list = s; polygons = polygons; sequences = sequences; turns = turns; journal = journal }

  pub on-polygons : (polygons ≡ length s / numbers_per_edge → ⊥) → Err ListsDiffer ≡ lengths_checked call
  unfolding lengths_checked lists_differ edges_in
  on-polygons h = rw (list, ne_eqb polygons (length s / numbers_per_edge) h)

  module _ (one_each : polygons ≡ length s / numbers_per_edge) where
    pub on-sequences : (sequences ≡ length s / numbers_per_edge → ⊥) → Err ListsDiffer ≡ lengths_checked call
    unfolding lengths_checked lists_differ edges_in
    on-sequences h = rw (list, eq-eqb polygons (length s / numbers_per_edge) one_each, ne_eqb sequences (length s / numbers_per_edge) h)

    module _ (one-too : sequences ≡ length s / numbers_per_edge) where
      pub on-turns : (turns ≡ length s / numbers_per_edge → ⊥) → Err ListsDiffer ≡ lengths_checked call
      unfolding lengths_checked lists_differ edges_in
      on-turns h = rw (list, eq-eqb polygons (length s / numbers_per_edge) one_each, eq-eqb sequences (length s / numbers_per_edge) one-too, ne_eqb turns (length s / numbers_per_edge) h)

      module _ (one-there : turns ≡ length s / numbers_per_edge) where
        lists-fit : lists_differ call ≡ false
        unfolding lists_differ edges_in
        lists-fit = rw (eq-eqb polygons (length s / numbers_per_edge) one_each, eq-eqb sequences (length s / numbers_per_edge) one-too, eq-eqb turns (length s / numbers_per_edge) one-there) refl

        pub on-journal : journal < journal_numbers_per_edge * (length s / numbers_per_edge) → Err JournalShort ≡ lengths_checked call
        unfolding lengths_checked journal_short edges_in
        on-journal h = rw (list, lists-fit, lt-ltb journal (journal_numbers_per_edge * (length s / numbers_per_edge)) h)

        pub on-lengths : journal_numbers_per_edge * (length s / numbers_per_edge) ≤ journal → (Ok tt) ≡ lengths_checked call
        unfolding lengths_checked journal_short edges_in
        on-lengths h = rw (list, lists-fit, le-ltb journal (journal_numbers_per_edge * (length s / numbers_per_edge)) h)

-- the first of the list that passes a test refuses it, and where none does the rest is asked
pub refuse-some : (test : ℕ → Bool) (n : ℕ) {f : Option ℕ} {e : ℕ} (refusal : ℕ → Refusal) (rest : Result ⊤ Refusal) → IsFirst test n f → f ≡ Some e → Err (refusal e) ≡ refuse_first test n refusal rest
refuse-some test n refusal rest first is = let v = rw is at first in refuse-here test n _ v.1 refusal rest v.0

pub refuse-none : (test : ℕ → Bool) (n : ℕ) {f : Option ℕ} (refusal : ℕ → Refusal) (rest : Result ⊤ Refusal) → IsFirst test n f → f ≡ None → rest ≡ refuse_first test n refusal rest
refuse-none test n refusal rest first is = let v = rw is at first in refuse-not test n n (sym v) refusal rest (omega arith)

none-first : (test : ℕ → Bool) (n : ℕ) {f : Option ℕ} → IsFirst test n f → f ≡ None → NoneBelow test n
none-first test n first is k l = let v = rw is at first in first-least test n k (omega (arith, v))

-- 8, 9 and 17, by the first edges found
module _ (s : List ℤ) {f : AtFault} (found : FirstAtFault s f) where
  pub on-repeat : {e : ℕ} → f.repeated ≡ Some e → Err (Repeated e) ≡ places_checked s
  unfolding places_checked
  on-repeat is = refuse-some _ _ Repeated _ found.repeated is

  module _ (none : f.repeated ≡ None) where
    pub on-uneven : {e : ℕ} → f.uneven ≡ Some e → Err (Uneven e) ≡ places_checked s
    unfolding places_checked
    on-uneven is = refuse-some _ _ Uneven _ found.uneven is ∙ refuse-none _ _ Repeated _ found.repeated none

    module _ (even : f.uneven ≡ None) where
      pub none-repeats : NoneBelow (repeats (drawing_of s)) (edges_in s)
      none-repeats = none-first _ _ found.repeated none

      pub none-uneven : NoneBelow (uneven (drawing_of s)) (edges_in s)
      none-uneven = none-first _ _ found.uneven even

      module _ {t : Option ℕ} (first-tangle : IsFirst (not_alternating (drawing_of s)) (edges_in s) t) where
        pub on-tangle : {e : ℕ} → t ≡ Some e → Err (NotAlternating e) ≡ places_checked s
        unfolding places_checked
        on-tangle is = refuse-some _ _ NotAlternating (Ok tt) first-tangle is ∙ refuse-none _ _ Uneven _ found.uneven even ∙ refuse-none _ _ Repeated _ found.repeated none

        pub on_none : t ≡ None → Ok tt ≡ places_checked s
        unfolding places_checked
        on_none is = refuse-none _ _ NotAlternating (Ok tt) first-tangle is ∙ refuse-none _ _ Uneven _ found.uneven even ∙ refuse-none _ _ Repeated _ found.repeated none

-- the first two stages give no refusal after which corners were looked at
abbrev EndsBefore : Result ⊤ Refusal → Type 0
EndsBefore a = (r : Refusal) → a ≡ Err r → corners_seen (Err r) ≡ false

passed-before : EndsBefore (Ok tt)
passed-before r q = let z : ◌≡◌ {A = ℕ} 0 1 = cc in absurd (omega arith)

refused-before : (r : Refusal) → corners_seen (Err r) ≡ false → EndsBefore (Err r)
refused-before r h r' q = ap corners_seen (sym q) ∙ h

if-before : (t : Bool) (r : Refusal) {rest : Result ⊤ Refusal} → corners_seen (Err r) ≡ false → EndsBefore rest → EndsBefore (refuse_if t r rest)
if-before true r h b = refused-before r h
if-before false r h b = b

pub lengths-before : (c : Call) → EndsBefore (lengths_checked c)
unfolding lengths_checked list_checked
lengths-before c = by (not (eqb (length c.list % numbers_per_edge) 0)) (ltb most_edges (edges_in c.list))
  where
    by : (a b : Bool) → EndsBefore (and_then (refuse_if a NotWhole (refuse_if b TooMany (Ok tt))) (refuse_if (lists_differ c) ListsDiffer (refuse_if (journal_short c) JournalShort (Ok tt))))
    by true b = refused-before NotWhole refl
    by false true = refused-before TooMany refl
    by false false = if-before (lists_differ c) ListsDiffer refl (if-before (journal_short c) JournalShort refl passed-before)

pub edges-before : (s : List ℤ) → EndsBefore (edges_checked s)
unfolding edges_checked
edges-before s = if-before (ltb e (edges_in s)) (fault_of s e) (by (past_range s e) (film_past_range s e) (equal_ends s e)) passed-before
  where
    e : ℕ
    e = first (edge_fault s) (edges_in s)

    by : (a b d : Bool) → corners_seen (Err (cond a (PastRange e) (cond b (FilmPastRange e) (cond d (EqualEnds e) (TopFalls e))))) ≡ false
    by true b d = refl
    by false true d = refl
    by false false true = refl
    by false false false = refl

-- what it takes to pass
if-passed : (t : Bool) (r : Refusal) (rest : Result ⊤ Refusal) → refuse_if t r rest ≡ Ok tt → (t ≡ false) × (rest ≡ Ok tt)
if-passed true r rest h = let z : ◌≡◌ {A = ℕ} 0 1 = cc in absurd (omega arith)
if-passed false r rest h = (refl, h)

stage-passed : (a next : Result ⊤ Refusal) → and_then a next ≡ Ok tt → (a ≡ Ok tt) × (next ≡ Ok tt)
stage-passed (Ok _) next h = (refl, h)
stage-passed (Err r) next h = let z : ◌≡◌ {A = ℕ} 0 1 = cc in absurd (omega arith)

pub list-passed : (c : Call) → lengths_checked c ≡ Ok tt → list_checked c.list ≡ Ok tt
unfolding lengths_checked
list-passed c h = (stage-passed (list_checked c.list) _ h).0

pub few-edges : (s : List ℤ) → list_checked s ≡ Ok tt → edges_in s ≤ most_edges
unfolding list_checked
few-edges s h = ltb-false _ _ (if-passed (ltb most_edges (edges_in s)) TooMany (Ok tt) (if-passed (not (eqb (length s % numbers_per_edge) 0)) NotWhole _ h).1).0

no-fault : (test : ℕ → Bool) (n : ℕ) (refusal : ℕ → Refusal) → refuse_first test n refusal (Ok tt) ≡ Ok tt → NoneBelow test n
no-fault test n refusal h k l = let m : n ≤ first test n = ltb-false _ _ (if-passed (ltb (first test n) n) (refusal (first test n)) (Ok tt) h).0 in first-least test n k (omega arith)

alone-ends-fit : (s : List ℤ) → edges_in s ≤ most_edges → NoneBelow (edge_fault_alone s) (edges_in s) → EndsFit s (edges_in s)
unfolding edges_in
alone-ends-fit s few none = record { all = refl; few = few; long = omega arith; in_range = λ e l. (none-alone s e (none e l)).0; on_film = λ e l. (none-alone s e (none e l)).1; two_ends = λ e l. (none-alone s e (none e l)).2 }

without-seven : (s : List ℤ) (e : ℕ) → edge_fault s e ≡ false → edge_fault_alone s e ≡ false
without-seven s e none = let w = none_of s e none in rw (w.0, w.1, w.2) refl

pub ends-fit : (s : List ℤ) → edges_in s ≤ most_edges → NoneBelow (edge_fault s) (edges_in s) → EndsFit s (edges_in s)
ends-fit s few none = alone-ends-fit s few (λ e l. without-seven s e (none e l))

pub checked-fit : (s : List ℤ) → list_checked s ≡ Ok tt → edges_checked s ≡ Ok tt → EndsFit s (edges_in s)
unfolding edges_checked
checked-fit s few h = ends-fit s (few-edges s few) (no-fault (edge_fault s) (edges_in s) (fault_of s) h)

pub alone-fit : (s : List ℤ) → and_then (list_checked s) (edges_alone_checked s) ≡ Ok tt → EndsFit s (edges_in s)
unfolding edges_alone_checked
alone-fit s h =
    let w = stage-passed (list_checked s) _ h in
    alone-ends-fit s (few-edges s w.0) (no-fault (edge_fault_alone s) (edges_in s) (fault_of s) w.1)

-- a list that passes all that a sheet's call asks of its edges passes what is asked of them alone
pub alone-passed : (c : Call) → checked c ≡ Ok tt → and_then (list_checked c.list) (edges_alone_checked c.list) ≡ Ok tt
unfolding edges_alone_checked edges_checked
alone-passed c h =
    let w = stage-passed (lengths_checked c) _ (by-stages c ∙ h) in
    let none = no-fault (edge_fault c.list) (edges_in c.list) (fault_of c.list) (stage-passed (edges_checked c.list) _ w.1).0 in
    let least = first-none (edge_fault_alone c.list) (edges_in c.list) (λ e l. without-seven c.list e (none e l)) in
    rw (list-passed c w.0) (sym (refuse-not _ _ _ refl (fault_of c.list) (Ok tt) (omega (arith, least))))
