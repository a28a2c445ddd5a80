-- What is promised of an instruction settles the answer: the numbers give one turn list at most, and where they give none the answer does not ask for it.
use Rattle.std.specs.Prelude.{Ok, Err, Result}
use mathlib.Core.Path.{◌≡◌, refl, sym, ap, ◌∙◌}
use mathlib.Core.List.{List}
use Prim.Native.Nat.{ℕ}
use lib.IntN.{ℤ}
use lib.ListN.{length}
use Rattle.sheet.specs.declared.TurnRefusal.{TurnRefusal}
use Rattle.sheet.specs.TurnList.{turned}
use Rattle.turns.proofs.OneTurnList.{one-turn-list}
use Rattle.cutter.specs.declared.machines.Machine.{Machine}
use Rattle.cutter.specs.Instructed.{Step}
use Rattle.cutter.specs.Instructed.{turned_step, instructed, Instructs}

module _ (m : Machine) (list : List ℤ) (polygons sequences turns : List ℕ) (k : ℕ) where
  not-asked : (r : TurnRefusal) (s t : List ℕ) → turned polygons sequences (length turns) ≡ Err r → instructed m list polygons sequences turns s k ≡ instructed m list polygons sequences turns t k
  unfolding instructed turned_step
  not-asked r s t q = rw q refl

  pub one_answer : {a b : Step} → Instructs m list polygons sequences turns k a → Instructs m list polygons sequences turns k b → a ≡ b
  one_answer A B = A.answer ∙ by (turned polygons sequences (length turns)) refl ∙ sym B.answer
    where
      by : (x : Result ℕ TurnRefusal) → turned polygons sequences (length turns) ≡ x → instructed m list polygons sequences turns A.right k ≡ instructed m list polygons sequences turns B.right k
      by (Ok c) q = ap (λ (t : List ℕ). instructed m list polygons sequences turns t k) (one-turn-list (A.given c q) (B.given c q))
      by (Err r) q = not-asked r A.right B.right q
