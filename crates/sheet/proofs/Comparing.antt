-- What the derived comparisons of points answer is what the paper's order says: by y, and at equal y by x. So of two points the greater one is the higher.
use mathlib.Core.Path.{◌≡◌, refl, sym, ◌∙◌}
use mathlib.Core.Bool.{Bool, true, false, ◌&&◌, cond}
use mathlib.Core.Logic.{⊎_elim}
use Prim.Native.Nat.{ℕ, ◌<◌, ◌≤◌}
use lib.Dec.{ltb, leb}
use lib.IntN.{ℤ, pos, negsuc}
use lib.Signed.{lt_z, le_z}
use native.Mathlib.Omega.{arith}
use borrow.Author.Tests.{lt-ltb, le-ltb, ltb-true, le-leb, lt-leb}
use Rattle.std.specs.Cmp.{signed_Decides}
use Rattle.std.proofs.Common.{Ordering, Less, Equal, Greater}
use Rattle.std.specs.Ordering.{is_eq, is_lt, is_le, is_some_and, int_cmp, int_eq, ordering_then, partial_ordering_then}
use Rattle.std.specs.Prelude.{Some}
use Rattle.laws.proofs.Deciding.{not-both, lt-or-le}
use Rattle.sheet.specs.declared.Point.{Point}
use Rattle.sheet.specs.Points.{same_z, is_below, is_same}
use Rattle.sheet.proofs.Signed.{same_z-yes, same_z-no}

pub eq-same_z : (a b : ℤ) → int_eq a b ≡ same_z a b
eq-same_z a b = by (int_eq a b) refl
  where
    by : (t : Bool) → int_eq a b ≡ t → t ≡ same_z a b
    by true e = sym (same_z-yes a b ((signed_Decides a b).0 e))
    by false e = sym (same_z-no a b (λ h. not-both ((signed_Decides a b).1 h) e))

pub eq-same : (p q : Point) → (int_eq p.y q.y && int_eq p.x q.x) ≡ is_same p q
unfolding is_same
eq-same p q = rw (eq-same_z p.y q.y, eq-same_z p.x q.x)

-- three answers by two tests
abbrev by_tests : Bool → Bool → Ordering
by_tests s t = cond s Less (cond t Greater Equal)

pub lt-int : (a b : ℤ) → is_lt (int_cmp a b) ≡ lt_z a b
lt-int a b = by (lt_z a b) (lt_z b a)
  where
    by : (s t : Bool) → is_lt (by_tests s t) ≡ s
    by true t = refl
    by false true = refl
    by false false = refl

pub lt-below : (p q : Point) → is_lt (ordering_then (int_cmp p.y q.y) (int_cmp p.x q.x)) ≡ is_below p q
unfolding is_below
lt-below p q = by (lt_z p.y q.y) (lt_z q.y p.y) ∙ rw (eq-same_z p.y q.y, lt-int p.x q.x)
  where
    by : (s t : Bool) → is_lt (ordering_then (by_tests s t) (int_cmp p.x q.x)) ≡ cond (is_eq (by_tests s t)) (is_lt (int_cmp p.x q.x)) s
    by true t = refl
    by false true = refl
    by false false = refl

-- `<` asks `partial_cmp`, which always has an answer
pub partial-below : (p q : Point) → is_some_and is_lt (partial_ordering_then (Some (int_cmp p.y q.y)) (Some (int_cmp p.x q.x))) ≡ is_below p q
partial-below p q = by (int_cmp p.y q.y) ∙ lt-below p q
  where
    by : (o : Ordering) → is_some_and is_lt (partial_ordering_then (Some o) (Some (int_cmp p.x q.x))) ≡ is_lt (ordering_then o (int_cmp p.x q.x))
    by Less = refl
    by Equal = refl
    by Greater = refl

not-lt-both : (a b : ℤ) → lt_z a b ≡ true → lt_z b a ≡ true → ⊥
not-lt-both (pos a) (pos b) h k = let l : a < b = ltb-true a b h in let m : b < a = ltb-true b a k in omega arith
not-lt-both (pos a) (negsuc b) h k = not-both h refl
not-lt-both (negsuc a) (pos b) h k = not-both k refl
not-lt-both (negsuc a) (negsuc b) h k = let l : b < a = ltb-true b a h in let m : a < b = ltb-true a b k in omega arith

neither-lt : (a b : ℤ) → lt_z a b ≡ false → lt_z b a ≡ false → a ≡ b
neither-lt a b h k = (signed_Decides a b).0 (rw (h, k))

module _ (p q : Point) where
  abbrev Chosen : Bool → Bool → Type 0
  Chosen below above = (cond above p q ≡ cond below q p) × (cond above q p ≡ cond below p q)

  chosen : Chosen (is_below p q) (is_below q p)
  chosen = rw (sym (lt-below p q), sym (lt-below q p)) (by (lt_z p.y q.y) (lt_z q.y p.y) (lt_z p.x q.x) (lt_z q.x p.x) refl refl refl refl)
    where
      by : (s t u v : Bool) → lt_z p.y q.y ≡ s → lt_z q.y p.y ≡ t → lt_z p.x q.x ≡ u → lt_z q.x p.x ≡ v →
          Chosen (is_lt (ordering_then (by_tests s t) (by_tests u v))) (is_lt (ordering_then (by_tests t s) (by_tests v u)))
      by true true u v hs ht hu hv = absurd (not-lt-both p.y q.y hs ht)
      by true false u v hs ht hu hv = (refl, refl)
      by false true u v hs ht hu hv = (refl, refl)
      by false false true true hs ht hu hv = absurd (not-lt-both p.x q.x hu hv)
      by false false true false hs ht hu hv = (refl, refl)
      by false false false true hs ht hu hv = (refl, refl)
      by false false false false hs ht hu hv =
          let e : p ≡ q = λ i. record { y = neither-lt p.y q.y hs ht i; x = neither-lt p.x q.x hu hv i } in (sym e, e)

  -- what `max` and `min` choose
  pub max-higher : cond (is_lt (ordering_then (int_cmp q.y p.y) (int_cmp q.x p.x))) p q ≡ cond (is_below p q) q p
  max-higher = rw (lt-below q p) chosen.0

  pub min-lower : cond (is_lt (ordering_then (int_cmp q.y p.y) (int_cmp q.x p.x))) q p ≡ cond (is_below p q) p q
  min-lower = rw (lt-below q p) chosen.1

le-by : (a b : ℕ) → is_le (by_tests (ltb a b) (ltb b a)) ≡ leb a b
le-by a b = ⊎_elim (λ h. rw (lt-ltb a b h, le-leb a b (omega arith)) refl) (λ h. later h) (lt-or-le a b)
  where
    later : b ≤ a → is_le (by_tests (ltb a b) (ltb b a)) ≡ leb a b
    later h = ⊎_elim (λ k. rw (le-ltb a b h, lt-ltb b a k, lt-leb a b k) refl) (λ k. rw (le-ltb a b h, le-ltb b a k, le-leb a b k) refl) (lt-or-le b a)

pub le-int : (a b : ℤ) → is_le (int_cmp a b) ≡ le_z a b
le-int (pos a) (pos b) = le-by a b
le-int (pos a) (negsuc b) = refl
le-int (negsuc a) (pos b) = refl
le-int (negsuc a) (negsuc b) = le-by b a
