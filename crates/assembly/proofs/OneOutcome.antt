-- What is promised settles the answer and every number in the slices: two outcomes of one call are the same.
use Rattle.std.specs.Prelude.{Result, Ok, Err}
use mathlib.Core.Path.{◌≡◌, refl, sym, ap, ◌∙◌, subst}
use mathlib.Core.List.{List}
use Prim.Native.Nat.{ℕ, ◌≤◌}
use lib.IntN.{ℤ}
use Rattle.sheet.specs.Answers.{zeros}
use Rattle.sheet.specs.TurnList.{number_lists, TurnList}
use Rattle.steps.specs.Swept.{rows_in}
use Rattle.numbering.specs.Outcome.{Lent, Left, left_as}
use Rattle.numbering.specs.Promised.{with_other_rows}
use Rattle.turns.proofs.OneTurnList.{one-turn-list}
use Rattle.assembly.specs.Assembled.{Assembled}
use Rattle.sheet.specs.declared.Numbered.{Numbered}
use Rattle.sheet.specs.declared.Refusal.{Refusal}
use Rattle.sheet.specs.Answers.{accepted}

module _ {l : Lent} {before : List ℕ} {x : Left (Result Numbered Refusal)} where
  -- the turn list, by the answer that both gave
  one-turns : {s t : List ℕ} → Assembled l before x s → Assembled l before x t → (a : Result Numbered Refusal) → x.answer ≡ a → s ≡ t
  one-turns a b (Err r) q = a.refused r q ∙ sym (b.refused r q)
  one-turns a b (Ok v) q = one-turn-list (a.accepted v.polygons v.peak v.records q).turn_list (b.accepted v.polygons v.peak v.records q).turn_list

  pub one-outcome : {y : Left (Result Numbered Refusal)} {s t : List ℕ} → Assembled l before x s → Assembled l before y t → (x ≡ y) × (s ≡ t)
  one-outcome {t = t} a b =
      let q = a.numbered.outcome_is ∙ sym b.numbered.outcome_is in
      (q, one-turns a (subst (λ (z : Left (Result Numbered Refusal)). Assembled l before z t) (sym q) b) x.answer refl)

-- with another row table, of as many rows as the peak or more, it is the same sheet once more, turn list and all
pub with-other-rows : {l : Lent} {before before₁ s t : List ℕ} {x y : Left (Result Numbered Refusal)} (n k m : ℕ) → Assembled l before x s → x.answer ≡ accepted n k m → (rows : List ℤ) → k ≤ rows_in rows → Assembled (with_other_rows l rows) before₁ y t → (y ≡ left_as x.answer x.polygons x.sequences x.journal (zeros rows)) × (t ≡ s)
with-other-rows {t = t} n k m a q rows enough b =
    let same = b.numbered.outcome_is ∙ a.numbered.peak_enough n k m q rows enough in
    let lists = subst (λ (z : Left (Result Numbered Refusal)). TurnList (number_lists z.polygons z.sequences) t) same (b.accepted n k m (ap (λ (z : Left (Result Numbered Refusal)). z.answer) same ∙ q)).turn_list in
    (same, one-turn-list lists (a.accepted n k m q).turn_list)
