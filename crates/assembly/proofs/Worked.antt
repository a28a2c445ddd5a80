-- The turn list of 01's touching sheet, to the last number: polygon 1 has the edges 6, 2, 5 and polygon 2 the edges 4, 0, 1, 3, each in sequence order.
-- It is a turn list of the numbers that the numbering's table has for that sheet, and they have only one.
use Rattle.std.specs.Prelude.{Result}
use mathlib.Core.Path.{◌≡◌, refl, ap, ◌∙◌}
use mathlib.Core.List.{List, [], ◌∷◌}
use mathlib.Core.Logic.{inl, inr}
use Prim.Native.Nat.{ℕ, zero, suc, ◌≤◌, ◌<◌}
use native.Mathlib.Omega.{arith}
use lib.ListN.{get_or}
use Rattle.laws.specs.Counting.{largest}
use Rattle.laws.proofs.Largest.{largest-bound}
use Rattle.sheet.specs.TurnList.{NumberLists, number_lists, Before, TurnList}
use Rattle.numbering.specs.Outcome.{Left}
use Rattle.numbering.proofs.Worked.{lent_for, two-touching, all-worked}
use Rattle.turns.proofs.Neighbours.{neighbours-turn-list}
use Rattle.turns.proofs.OneTurnList.{one-turn-list}
use Rattle.assembly.specs.Assembled.{Assembled}
use Rattle.sheet.specs.declared.Numbered.{Numbered}
use Rattle.sheet.specs.declared.Refusal.{Refusal}

abbrev touching_numbers : NumberLists
touching_numbers = number_lists (2 ∷ 2 ∷ 1 ∷ 2 ∷ 2 ∷ 1 ∷ 1 ∷ []) (1 ∷ 2 ∷ 1 ∷ 3 ∷ 0 ∷ 2 ∷ 0 ∷ [])

abbrev pub touching_turns : List ℕ
touching_turns = 6 ∷ 2 ∷ 5 ∷ 4 ∷ 0 ∷ 1 ∷ 3 ∷ []

places : (i : ℕ) → i < 7 → get_or touching_turns i 0 < 7
unfolding largest
places i l = let below : get_or touching_turns i 0 ≤ 6 = largest-bound (λ j. get_or touching_turns j 0) 7 i l in omega arith

next : (i : ℕ) → suc i < 7 → Before touching_numbers (get_or touching_turns i 0) (get_or touching_turns (suc i) 0)
unfolding number_lists
next zero l = inr (refl, omega arith)
next (suc zero) l = inr (refl, omega arith)
next (suc (suc zero)) l = inl (omega arith)
next (suc (suc (suc zero))) l = inr (refl, omega arith)
next (suc (suc (suc (suc zero)))) l = inr (refl, omega arith)
next (suc (suc (suc (suc (suc zero))))) l = inr (refl, omega arith)
next (suc (suc (suc (suc (suc (suc i)))))) l = absurd (omega arith)

touching-turn-list : TurnList touching_numbers touching_turns
unfolding number_lists
touching-turn-list = neighbours-turn-list touching_numbers touching_turns refl places next

-- Whoever keeps the promise of the one call leaves this list: not one with the outlines in another order, nor one with an outline begun at another edge.
pub touching-turns : {before after : List ℕ} {x : Left (Result Numbered Refusal)} → Assembled (lent_for two-touching) before x after → after ≡ touching_turns
touching-turns a =
    let k = a.numbered.outcome_is in
    let cut = a.accepted 2 3 11 (ap (λ x. x.answer) k ∙ all-worked.of_touching) in
    let polygons = ap (λ x. x.polygons) k ∙ all-worked.lists_of_touching in
    let sequences = ap (λ x. x.sequences) k ∙ all-worked.sequences_of_touching in
    one-turn-list (rw (polygons, sequences) at cut.turn_list) touching-turn-list
