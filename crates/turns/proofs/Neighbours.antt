-- A list in which each edge comes before the one after it is a turn list: it then comes before all that follow.
use mathlib.Core.Path.{◌≡◌, ◌∙◌}
use mathlib.Core.List.{List}
use mathlib.Core.Logic.{⊎_elim, inl, inr}
use Prim.Native.Nat.{ℕ, zero, suc, ◌<◌}
use native.Mathlib.Omega.{arith}
use lib.ListN.{length, get_or}
use Rattle.laws.proofs.Deciding.{lt-or-le}
use Rattle.sheet.specs.TurnList.{NumberLists, Before, TurnList}

pub before-both : (v : NumberLists) (e f g : ℕ) → Before v e f → Before v f g → Before v e g
before-both v e f g (inl a) (inl b) = inl (omega (arith, a, b))
before-both v e f g (inl a) (inr b) = inl (omega (arith, a, b))
before-both v e f g (inr a) (inl b) = inl (omega (arith, a, b))
before-both v e f g (inr a) (inr b) = inr (a.0 ∙ b.0, omega (arith, a, b))

module _ (v : NumberLists) (turns : List ℕ)
    (size : length turns ≡ v.edges)
    (places : (i : ℕ) → i < v.edges → get_or turns i 0 < v.edges)
    (next : (i : ℕ) → suc i < v.edges → Before v (get_or turns i 0) (get_or turns (suc i) 0)) where
  in_order : (i j : ℕ) → i < j → j < v.edges → Before v (get_or turns i 0) (get_or turns j 0)
  in_order i zero h l = absurd (omega arith)
  in_order i (suc j) h l = ⊎_elim
      (λ g. before-both v _ _ _ (in_order i j g (omega arith)) (next j l))
      (λ g. let q : i ≡ j = omega arith in rw q (next j l))
      (lt-or-le i j)

  pub neighbours-turn-list : TurnList v turns
  neighbours-turn-list = record { size = size; places = places; in_order = in_order }
