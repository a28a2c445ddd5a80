-- The promise of the call from the promise of the numbering: an accepted sheet's lists are what the turn list is laid from, and with it they can be cut by;
-- a refusal leaves the turn list.
use Rattle.std.specs.Prelude.{Result, Err}
use mathlib.Core.Path.{◌≡◌, refl, subst}
use mathlib.Core.List.{List}
use Prim.Native.Nat.{ℕ, ◌*◌, ◌≤◌}
use native.Mathlib.Omega.{arith}
use lib.ListN.{length}
use Rattle.sheet.specs.declared.Refusal.{Refusal}
use Rattle.sheet.specs.TurnList.{number_lists, GoodLists, TurnList}
use Rattle.checks.proofs.Passed.{passed}
use Rattle.numbering.specs.Outcome.{Lent, Left, call_of, left_as}
use Rattle.numbering.specs.Promised.{Promised}
use Rattle.numbering.proofs.Promising.{accepted-call}
use Rattle.assembly.specs.Assembled.{Assembled}
use Rattle.assembly.proofs.CutInOrder.{good, half, cut-in-order}
use Rattle.sheet.specs.declared.Numbered.{Numbered}
use Rattle.sheet.specs.Answers.{accepted}

-- no answer both accepts and refuses
not-both : {a : Result Numbered Refusal} {r : Refusal} {n k m : ℕ} → a ≡ accepted n k m → a ≡ Err r → ⊥
not-both p q = let z : ◌≡◌ {A = ℕ} 0 1 = cc in omega arith

module _ {l : Lent} {x : Left (Result Numbered Refusal)} (P : Promised l x) where
  pub to-lay : (n k m : ℕ) → x.answer ≡ accepted n k m → GoodLists x.polygons x.sequences l.turns n × (2 * n ≤ length x.polygons)
  to-lay n k m q =
      let A = accepted-call P.outcome_is q in
      let C = passed (call_of l) A.passed_all in
      let N = P.numbered n k m q in
      (rw C.turns (good C x.polygons x.sequences N A.polygons_long A.sequences_long), half C x.polygons x.sequences N A.polygons_long A.sequences_long)

  laid : {before after : List ℕ} (n k m : ℕ) → x.answer ≡ accepted n k m → TurnList (number_lists x.polygons x.sequences) after → Assembled l before x after
  laid {after = after} n k m q T = record {
    numbered = P;
    refused = λ r h. absurd (not-both q h);
    accepted = λ n₁ k₁ m₁ q₁.
        let A = accepted-call P.outcome_is q₁ in
        cut-in-order (passed (call_of l) A.passed_all) x.polygons x.sequences (P.numbered n₁ k₁ m₁ q₁) A.polygons_long A.sequences_long after T;
  }

  pub when-laid : {before after : List ℕ} (n k m : ℕ) → x.answer ≡ accepted n k m → TurnList (number_lists x.polygons x.sequences) after → Assembled l before (left_as (accepted n k m) x.polygons x.sequences x.journal x.rows) after
  when-laid {before} {after} n k m q T = subst (λ (a : Result Numbered Refusal). Assembled l before (left_as a x.polygons x.sequences x.journal x.rows) after) q (laid n k m q T)

  pub when-refused : (r : Refusal) → x.answer ≡ Err r → {before : List ℕ} → Assembled l before x before
  when-refused r q = record { numbered = P; refused = λ r₁ h. refl; accepted = λ n k m h. absurd (not-both h q) }
