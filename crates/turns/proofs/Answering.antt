-- The ways out, one law for each: a refusal where the first edge with its fault is found, and what follows where there is none.
use mathlib.Core.Path.{◌≡◌, sym, ap, ◌∙◌, subst}
use mathlib.Core.Bool.{Bool, true, false}
use mathlib.Core.List.{List}
use Prim.Native.Nat.{ℕ, ◌≤◌, ◌<◌}
use native.Mathlib.Omega.{arith}
use lib.Dec.{eqb}
use lib.ListN.{length}
use borrow.Author.Tests.{lt-ltb, le-ltb, ltb-false, eqb-true, not-false}
use Rattle.laws.specs.Counting.{first, largest}
use Rattle.laws.proofs.Deciding.{neither-true, both_true}
use Rattle.sheet.specs.declared.TurnRefusal.{TurnRefusal}
use Rattle.sheet.specs.declared.TurnRefusal.TheVariants.{TurnLengths, NoPolygon, PairRepeated, Gap}
use Rattle.std.specs.Prelude.{Result, Ok, Err}
use Rattle.sheet.specs.TurnList.{NumberLists, number_lists, no_polygon, pair_repeated, gap, refuse_first_turn, lengths_differ, turned}
use Rattle.sheet.specs.Sound.{AcceptsExactly}
use Rattle.sheet.proofs.ExactlyAccepted.{accepts-exactly}
use Rattle.turns.specs.Keys.{Sizes}
use Rattle.turns.specs.Answers.{without_polygon, numbers_turned}
use Rattle.sheet.specs.Amounts.{most_edges}

module _ (v : NumberLists) (test : NumberLists → ℕ → Bool) (refusal : ℕ → TurnRefusal) (rest : Result ℕ TurnRefusal) where
  pub refuses : {e : ℕ} → (e < v.edges) × (e ≡ first (test v) v.edges) → Err (refusal e) ≡ refuse_first_turn v test refusal rest
  refuses {e} found = rw (← found.1, lt-ltb e v.edges found.0)

  pub passes : first (test v) v.edges ≡ v.edges → rest ≡ refuse_first_turn v test refusal rest
  passes none = rw (none, le-ltb v.edges v.edges (omega arith))

-- 11, and what follows where the lengths are as they should be
module _ (polygons sequences : List ℕ) (turns : ℕ) {differ : Bool} (told : differ ≡ lengths_differ (length polygons) (length sequences) turns) where
  pub turned-differing : differ ≡ true → Err TurnLengths ≡ turned polygons sequences turns
  unfolding turned
  turned-differing differs = rw (← told, differs)

  module _ (equal : differ ≡ false) where
    pub turned-numbers : numbers_turned polygons sequences ≡ turned polygons sequences turns
    unfolding turned numbers_turned
    turned-numbers = rw (← told, equal)

    alike : (length polygons ≡ length sequences) × (length polygons ≡ turns) × (length polygons ≤ most_edges)
    unfolding lengths_differ
    alike =
        let w = neither-true _ _ (sym told ∙ equal) in
        let s = both_true (eqb (length polygons) (length sequences)) _ (not-false _ w.0) in
        (eqb-true _ _ s.0, eqb-true _ _ s.1, ltb-false most_edges _ w.1)

    pub turned-sizes : Sizes polygons sequences
    turned-sizes = record { same = sym alike.0; few = alike.2 }

    pub turned-room : turns ≡ length polygons
    turned-room = sym alike.1

-- 12 to 14, and what is accepted
module _ (polygons sequences : List ℕ) where
  abbrev numbers : NumberLists
  numbers = number_lists polygons sequences

  abbrev Found : (ℕ → Bool) → ℕ → Type 0
  Found test e = (e < length polygons) × (e ≡ first test (length polygons))

  abbrev Nowhere : (ℕ → Bool) → Type 0
  Nowhere test = first test (length polygons) ≡ length polygons

  pub numbers-without : {e : ℕ} → Found (without_polygon polygons) e → Err (NoPolygon e) ≡ numbers_turned polygons sequences
  unfolding number_lists no_polygon without_polygon numbers_turned
  numbers-without found = refuses numbers no_polygon NoPolygon _ found

  module _ (n12 : Nowhere (without_polygon polygons)) where
    pub numbers-again : {e : ℕ} → Found (pair_repeated numbers) e → Err (PairRepeated e) ≡ numbers_turned polygons sequences
    unfolding number_lists no_polygon without_polygon numbers_turned
    numbers-again found =
        refuses numbers pair_repeated PairRepeated _ found
        ∙ passes numbers no_polygon NoPolygon _ n12

    module _ (n13 : Nowhere (pair_repeated numbers)) where
      pub numbers-gap : {e : ℕ} → Found (gap numbers) e → Err (Gap e) ≡ numbers_turned polygons sequences
      unfolding number_lists no_polygon without_polygon numbers_turned
      numbers-gap found =
          refuses numbers gap Gap _ found
          ∙ passes numbers pair_repeated PairRepeated _ n13
          ∙ passes numbers no_polygon NoPolygon _ n12

      pub numbers-accepted : Nowhere (gap numbers) → {n : ℕ} → n ≡ largest numbers.polygon numbers.edges → Ok n ≡ numbers_turned polygons sequences
      unfolding number_lists no_polygon without_polygon numbers_turned
      numbers-accepted n14 e =
          ap Ok e
          ∙ passes numbers gap Gap _ n14
          ∙ passes numbers pair_repeated PairRepeated _ n13
          ∙ passes numbers no_polygon NoPolygon _ n12

-- whichever it is, it accepts exactly the good numberings
pub answers-exactly : (polygons sequences : List ℕ) (turns : ℕ) {r : Result ℕ TurnRefusal} → r ≡ turned polygons sequences turns → AcceptsExactly polygons sequences turns r
answers-exactly polygons sequences turns told = subst (AcceptsExactly polygons sequences turns) (sym told) (accepts-exactly polygons sequences turns)
