-- What is promised of an instruction, by the way that led to the answer: refused for the edges, for the numbers or the turn list, for a head that is not
-- the next tail, or answered from lists that outlines can be cut from.
use Rattle.std.specs.Prelude.{Ok, Err, Result, ⊤}
use mathlib.Core.Path.{◌≡◌, refl, sym, ◌∙◌}
use mathlib.Core.Bool.{false}
use mathlib.Core.List.{List}
use Prim.Native.Nat.{ℕ, ◌<◌}
use native.Mathlib.Omega.{arith}
use lib.IntN.{ℤ}
use lib.ListN.{length, get_or}
use Rattle.laws.specs.Counting.{first}
use Rattle.laws.proofs.First.{first-least}
use Rattle.sheet.specs.declared.Refusal.{Refusal}
use Rattle.sheet.specs.Edges.{edges_in}
use Rattle.checks.specs.Stages.{and_then, list_checked, edges_alone_checked}
use Rattle.checks.proofs.Answering.{alone-fit}
use Rattle.ends.proofs.Fitting.{tail-in, head_in}
use Rattle.cutter.specs.declared.machines.Machine.{Machine}
use Rattle.cutter.specs.declared.CutRefusal.{CutRefusal}
use Rattle.cutter.specs.declared.CutRefusal.TheVariants.{Edges, HeadNotTail}
use Rattle.cutter.specs.Instructed.{Step}
use Rattle.cutter.specs.Places.{place_for}
use Rattle.cutter.specs.Programme.{programme}
use Rattle.cutter.specs.Outlines.{outlines_of, head_not_tail}
use Rattle.cutter.specs.Instructed.{kth, joined_step, instructed, Instructs}
use Rattle.cutter.specs.Turning.{after_turning, TurnsChecked}
use Rattle.cutter.specs.Joined.{Drawable}
use Rattle.cutter.proofs.SomeTurnList.{some_turn_list, some-turn-list}
use Rattle.cutter.proofs.TurnsTried.{refuse-here, refuse-not}
use Rattle.cutter.proofs.Standing.{as_long}
use Rattle.cutter.proofs.Closing.{drawn, closed}
use Rattle.cutter.proofs.StrokesBack.{strokes-back}
use Rattle.cutter.proofs.Places.{place-exact}
use Rattle.cutter.proofs.Cuttable.{cuttable}

refused-not-next : {A : Type 0} (r : CutRefusal) {s : Step} → s ≡ Err r → (i : _) → s ≡ Ok i → A
refused-not-next r q i e = let z : ◌≡◌ {A = ℕ} 0 1 = cc in absurd (omega arith)

-- lists that passed all that is asked before 25
module _ (list : List ℤ) (polygons sequences turns : List ℕ) (passed : and_then (list_checked list) (edges_alone_checked list) ≡ Ok tt)
    {t : Result ⊤ CutRefusal} (T : TurnsChecked polygons sequences turns (edges_in list) t) (right : t ≡ Ok tt) where
  pub drawable : Drawable list polygons sequences turns
  drawable =
      let E = alone-fit list passed in
      let w = T.passed right in
      record {
        few = omega (arith, w.0, E.few);
        long = omega (arith, w.0, E.long);
        same = w.1 ∙ sym w.0;
        tails = λ e l. tail-in E e (omega (arith, l, w.0));
        heads = λ e l. head_in E e (omega (arith, l, w.0));
        runs = w.2;
      }

  pub turns-long : length turns ≡ edges_in list
  turns-long = as_long drawable ∙ (T.passed right).0

module _ (m : Machine) (list : List ℤ) (polygons sequences turns : List ℕ) (k : ℕ) where
  pub on-edges : (r : Refusal) → and_then (list_checked list) (edges_alone_checked list) ≡ Err r → Instructs m list polygons sequences turns k (Err (Edges r))
  unfolding instructed
  on-edges r q = record {
    right = some_turn_list polygons sequences;
    given = some-turn-list polygons sequences (length turns);
    answer = rw q refl;
    exact = place-exact m;
    cuttable = refused-not-next (Edges r) refl;
    edges_back = refused-not-next (Edges r) refl;
  }

  -- once the edges are passed
  module _ (passed : and_then (list_checked list) (edges_alone_checked list) ≡ Ok tt) {t : Result ⊤ CutRefusal} (T : TurnsChecked polygons sequences turns (edges_in list) t) where
    answered : after_turning t (joined_step m list sequences turns k) ≡ instructed m list polygons sequences turns T.right k
    unfolding instructed
    answered = rw passed (T.answer (joined_step m list sequences turns k))

    pub on-turns : (r : CutRefusal) → t ≡ Err r → Instructs m list polygons sequences turns k (Err r)
    on-turns r q = record {
      right = T.right;
      given = T.given;
      answer = rw q at answered;
      exact = place-exact m;
      cuttable = refused-not-next r refl;
      edges_back = refused-not-next r refl;
    }

    -- and the turn list too
    module _ (right : t ≡ Ok tt) where
      D : Drawable list polygons sequences turns
      D = drawable list polygons sequences turns passed T right

      long : length turns ≡ edges_in list
      long = turns-long list polygons sequences turns passed T right

      joined-answer : joined_step m list sequences turns k ≡ instructed m list polygons sequences turns T.right k
      joined-answer = rw right at answered

      pub on-broken : {broken : ℕ} → (broken < length turns) × (broken ≡ first (head_not_tail list sequences turns) (length turns)) → Instructs m list polygons sequences turns k (Err (HeadNotTail (get_or turns broken 0)))
      unfolding joined_step
      on-broken found = record {
        right = T.right;
        given = T.given;
        answer = refuse-here _ _ (λ i. HeadNotTail (get_or turns i 0)) _ found ∙ joined-answer;
        exact = place-exact m;
        cuttable = refused-not-next _ refl;
        edges_back = refused-not-next _ refl;
      }

      module _ (none : first (head_not_tail list sequences turns) (length turns) ≡ length turns) where
        joined : (i : ℕ) → i < length turns → head_not_tail list sequences turns i ≡ false
        joined i h = first-least (head_not_tail list sequences turns) (length turns) i (omega (arith, h, none))

        pub on-joined : {r : Step} → r ≡ kth (programme (place_for m) (outlines_of list sequences turns)) k → Instructs m list polygons sequences turns k r
        unfolding joined_step
        on-joined q = record {
          right = T.right;
          given = T.given;
          answer = q ∙ refuse-not _ _ (λ i. HeadNotTail (get_or turns i 0)) _ none ∙ joined-answer;
          exact = place-exact m;
          cuttable = λ i e. cuttable m _ (drawn D) (closed D joined);
          edges_back = λ i e. strokes-back m D joined;
        }
