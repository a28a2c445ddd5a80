-- A list that passes 8 and 9 is sound, and so its ends in order can be walked for 17.
use mathlib.Core.Path.{◌≡◌, sym, ap, ◌∙◌}
use mathlib.Core.Bool.{true, false}
use mathlib.Core.List.{List}
use mathlib.Core.Logic.{⊎_elim}
use Prim.Native.Nat.{ℕ, ◌*◌, ◌<◌}
use native.Mathlib.Omega.{arith}
use lib.IntN.{ℤ}
use borrow.Author.Tests.{eqb-true, eq-eqb, ne_eqb}
use Rattle.std.specs.Prelude.{None}
use Rattle.laws.proofs.Deciding.{lt-or-le, true-or-false, not-both, neither-true}
use Rattle.laws.proofs.Tests.{not-false}
use Rattle.laws.proofs.Counting.{count_none}
use Rattle.laws.proofs.First.{none_below}
use Rattle.laws.proofs.Searching.{NoneBelow}
use Rattle.sheet.specs.Edges.{edges_in, drawing_of}
use Rattle.sheet.specs.Kinds.{Way, arriving, leaving, end_of, comes, number_at}
use Rattle.sheet.specs.Sound.{Sound}
use Rattle.sheet.specs.Answers.{same_kind, repeats, differ, uneven}
use Rattle.sheet.proofs.AtAPlace.{same_self}
use Rattle.checks.specs.declared.places.AtFault.{AtFault}
use Rattle.ends.specs.Fitting.{EndsFit}
use Rattle.ends.specs.Ends.{Ordered}
use Rattle.checks.specs.Places.{Walks, FirstAtFault}
use Rattle.checks.specs.Corners.{SoundEnds}
use Rattle.checks.proofs.Answering.{none-repeats, none-uneven}

-- 8 is not given: no two edges of one kind at one place
module _ (s : List ℤ) (once : NoneBelow (repeats (drawing_of s)) (edges_in s)) where
  earlier : (w : Way) (e f : ℕ) → e < f → f < edges_in s → end_of (drawing_of s) w e ≡ end_of (drawing_of s) w f → comes (drawing_of s) w e ≡ comes (drawing_of s) w f → ⊥
  unfolding repeats same_kind
  earlier w e f l h p q = by w p q (neither-true _ _ (none_below _ f (once f h) e l))
    where
      alike : (w : Way) → end_of (drawing_of s) w e ≡ end_of (drawing_of s) w f → comes (drawing_of s) w e ≡ comes (drawing_of s) w f → same_kind (drawing_of s) w f e ≡ true
      alike w p q = rw (eq-eqb (end_of (drawing_of s) w f) (end_of (drawing_of s) w e) (sym p), q) (same_self (comes (drawing_of s) w f))

      by : (w : Way) → end_of (drawing_of s) w e ≡ end_of (drawing_of s) w f → comes (drawing_of s) w e ≡ comes (drawing_of s) w f → (same_kind (drawing_of s) arriving f e ≡ false) × (same_kind (drawing_of s) leaving f e ≡ false) → ⊥
      by arriving p q n = not-both (alike arriving p q) n.0
      by leaving p q n = not-both (alike leaving p q) n.1

  single : (w : Way) (e f : ℕ) → e < edges_in s → f < edges_in s → end_of (drawing_of s) w e ≡ end_of (drawing_of s) w f → comes (drawing_of s) w e ≡ comes (drawing_of s) w f → e ≡ f
  single w e f el fl p q = ⊎_elim (λ l. absurd (earlier w e f l fl p q)) (λ l. ⊎_elim (λ m. absurd (earlier w f e m el (sym p) (sym q))) (λ m. omega arith) (lt-or-le f e)) (lt-or-le e f)

-- 9 is not given: at a place with an edge as many arrive as leave, and where there is none both are 0
module _ (s : List ℤ) (level : NoneBelow (uneven (drawing_of s)) (edges_in s)) (p : ℕ) where
  differ-not : differ (drawing_of s) p ≡ false → number_at (drawing_of s) arriving p ≡ number_at (drawing_of s) leaving p
  unfolding differ
  differ-not h = eqb-true _ _ (not-false _ h)

  at-end : (e : ℕ) → e < edges_in s → (w : Way) → end_of (drawing_of s) w e ≡ p → differ (drawing_of s) p ≡ false
  unfolding uneven
  at-end e l arriving q = ap (differ (drawing_of s)) (sym q) ∙ (neither-true (differ (drawing_of s) ((drawing_of s).tail e)) _ (level e l)).1
  at-end e l leaving q = ap (differ (drawing_of s)) (sym q) ∙ (neither-true _ (differ (drawing_of s) ((drawing_of s).head e)) (level e l)).0

  nobody : differ (drawing_of s) p ≡ true → (w : Way) → number_at (drawing_of s) w p ≡ 0
  unfolding number_at drawing_of
  nobody h w = count_none _ (edges_in s) (λ e l. ne_eqb _ _ (λ q. not-both h (at-end e l w q)))

  even : number_at (drawing_of s) arriving p ≡ number_at (drawing_of s) leaving p
  even = ⊎_elim (λ h. nobody h arriving ∙ sym (nobody h leaving)) differ-not (true-or-false (differ (drawing_of s) p))

pub sound-list : (s : List ℤ) → NoneBelow (repeats (drawing_of s)) (edges_in s) → NoneBelow (uneven (drawing_of s)) (edges_in s) → Sound (drawing_of s)
unfolding drawing_of
sound-list s once level = record { single = single s once; even = even s level }

pub sound-ends : {s : List ℤ} {words : List ℕ} {f : AtFault} → EndsFit s (edges_in s) → FirstAtFault s f → Ordered s words (edges_in s) × Walks words (2 * edges_in s) → f.repeated ≡ None → f.uneven ≡ None → SoundEnds s words (edges_in s)
sound-ends {s} E found o once level = record { fit = E; ordered = o.0; walks = o.1; sound = sound-list s (none-repeats s found once level) (none-uneven s found once level) }
