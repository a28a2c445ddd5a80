-- Each way out of the check of a turn list, as the answer sheet has it: 11; 12 to 14 as the numbers have it; 24 at the first position where the list differs
-- from the right one. Where there is none, the two lists are one; and so they are where the list runs.
use Rattle.std.specs.Prelude.{Ok, Err, Result, ⊤}
use mathlib.Core.Path.{◌≡◌, refl, sym, ap, subst}
use mathlib.Core.Bool.{Bool, true, false, not}
use mathlib.Core.List.{List}
use Prim.Native.Nat.{ℕ, ◌≤◌, ◌<◌}
use native.Mathlib.Omega.{arith}
use lib.ListN.{length, get_or}
use lib.Seq.{ext_get_or}
use borrow.Author.Tests.{lt-ltb, le-ltb, eq-eqb, ne_eqb, eqb-true}
use Rattle.laws.specs.Counting.{first}
use Rattle.laws.proofs.First.{first-least, first-none}
use Rattle.laws.proofs.Tests.{not-false}
use Rattle.sheet.specs.declared.TurnRefusal.{TurnRefusal}
use Rattle.sheet.specs.declared.TurnRefusal.TheVariants.{TurnLengths}
use Rattle.sheet.specs.Amounts.{most_edges}
use Rattle.sheet.specs.TurnList.{number_lists, turned, TurnList}
use Rattle.cutter.specs.declared.CutRefusal.{CutRefusal}
use Rattle.cutter.specs.declared.CutRefusal.TheVariants.{Numbers, TurnsDiffer}
use Rattle.cutter.specs.Instructed.{Step}
use Rattle.cutter.specs.Instructed.{not_as_long, turn_differs, refuse_first_step, turned_step}
use Rattle.cutter.specs.Runs.{Runs}
use Rattle.cutter.specs.Turning.{TurnsChecked}
use Rattle.cutter.proofs.RightTurns.{runs-right, right-runs}
use Rattle.cutter.proofs.SomeTurnList.{some_turn_list, some-turn-list}

-- what is tried along a list
module _ (test : ℕ → Bool) (n : ℕ) (refusal : ℕ → CutRefusal) (rest : Step) where
  pub refuse-here : {f : ℕ} → (f < n) × (f ≡ first test n) → Err (refusal f) ≡ refuse_first_step test n refusal rest
  refuse-here {f} found = rw (← found.1, lt-ltb f n found.0)

  pub refuse-not : first test n ≡ n → rest ≡ refuse_first_step test n refusal rest
  refuse-not none = rw (none, le-ltb n n (omega arith))

refused-not-passed : {A : Type 0} {r : CutRefusal} → ◌≡◌ {A = Result ⊤ CutRefusal} (Err r) (Ok tt) → A
refused-not-passed q = let z : ◌≡◌ {A = ℕ} 0 1 = cc in absurd (omega arith)

-- a list that differs nowhere
same-list : (turns right : List ℕ) → length right ≡ length turns → first (turn_differs turns right) (length turns) ≡ length turns → right ≡ turns
unfolding turn_differs
same-list turns right size none = ext_get_or 0 right turns size (λ i l. sym (eqb-true _ _ (not-false _ (first-least (turn_differs turns right) (length turns) i (omega arith)))))

differs-nowhere : (turns : List ℕ) → first (turn_differs turns turns) (length turns) ≡ length turns
unfolding turn_differs
differs-nowhere turns = first-none (turn_differs turns turns) (length turns) (λ i l. ap not (eq-eqb (get_or turns i 0) _ refl))

module _ (n : ℕ) (polygons sequences turns : List ℕ) where
  not-long : not_as_long n polygons sequences turns ≡ true → TurnsChecked polygons sequences turns n (Err (Numbers TurnLengths))
  unfolding turned_step
  not-long h = record {
    right = some_turn_list polygons sequences;
    given = some-turn-list polygons sequences (length turns);
    answer = λ rest. rw h;
    passed = refused-not-passed;
  }

  pub on-polygons : (length polygons ≡ n → ⊥) → TurnsChecked polygons sequences turns n (Err (Numbers TurnLengths))
  unfolding not_as_long
  on-polygons h = not-long (rw (ne_eqb (length polygons) n h))

  module _ (p : length polygons ≡ n) where
    pub on-sequences : (length sequences ≡ n → ⊥) → TurnsChecked polygons sequences turns n (Err (Numbers TurnLengths))
    unfolding not_as_long
    on-sequences h = not-long (rw (eq-eqb (length polygons) n p, ne_eqb (length sequences) n h))

    module _ (s : length sequences ≡ n) where
      pub on-turns : (length turns ≡ n → ⊥) → TurnsChecked polygons sequences turns n (Err (Numbers TurnLengths))
      unfolding not_as_long
      on-turns h = not-long (rw (eq-eqb (length polygons) n p, eq-eqb (length sequences) n s, ne_eqb (length turns) n h))

      module _ (t : length turns ≡ n) where
        as_long : not_as_long n polygons sequences turns ≡ false
        unfolding not_as_long
        as_long = rw (eq-eqb (length polygons) n p, eq-eqb (length sequences) n s, eq-eqb (length turns) n t)

        pub on-numbers : {r : TurnRefusal} → Err r ≡ turned polygons sequences (length turns) → TurnsChecked polygons sequences turns n (Err (Numbers r))
        unfolding turned_step
        on-numbers q = record {
          right = some_turn_list polygons sequences;
          given = some-turn-list polygons sequences (length turns);
          answer = λ rest. rw (as_long, ← q);
          passed = refused-not-passed;
        }

        module _ (right : List ℕ) {c : ℕ} (accepted : Ok c ≡ turned polygons sequences (length turns)) (T : TurnList (number_lists polygons sequences) right) where
          pub on-different : {f : ℕ} → (f < length turns) × (f ≡ first (turn_differs turns right) (length turns)) → TurnsChecked polygons sequences turns n (Err (TurnsDiffer f))
          unfolding turned_step
          on-different found = record {
            right = right;
            given = λ _ _. T;
            answer = λ rest. rw (as_long, ← accepted) (refuse-here _ _ TurnsDiffer rest found);
            passed = refused-not-passed;
          }

          on_same : first (turn_differs turns right) (length turns) ≡ length turns → Runs (number_lists polygons sequences) turns → TurnsChecked polygons sequences turns n (Ok tt)
          unfolding turned_step
          on_same none R = record {
            right = right;
            given = λ _ _. T;
            answer = λ rest. rw (as_long, ← accepted) (refuse-not _ _ TurnsDiffer rest none);
            passed = λ _. (p, s, R);
          }

        module _ (few : n ≤ most_edges) where
          pub on-right : (right : List ℕ) {c : ℕ} → Ok c ≡ turned polygons sequences (length turns) → TurnList (number_lists polygons sequences) right → first (turn_differs turns right) (length turns) ≡ length turns →
              TurnsChecked polygons sequences turns n (Ok tt)
          unfolding number_lists
          on-right right accepted T none =
              let same = same-list turns right (omega (arith, T.size)) none in
              on_same right accepted T none (right-runs polygons sequences turns (omega arith) (omega arith) _ (sym accepted) (subst (TurnList _) same T))

          pub on-run : Runs (number_lists polygons sequences) turns → TurnsChecked polygons sequences turns n (Ok tt)
          on-run R =
              let w = runs-right polygons sequences turns (omega arith) (omega arith) R in
              on_same turns (sym w.1) w.2 (differs-nowhere turns) R
