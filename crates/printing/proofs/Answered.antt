-- What is printed goes by the outcome of the call: laid line by line for its answer, the lines are those of the outcome.
use mathlib.Core.Path.{◌≡◌, refl, subst, ap}
use mathlib.Core.List.{List, ◌∷◌, ◌++◌}
use Prim.Native.Nat.{ℕ, zero, suc, ◌*◌, ◌≤◌}
use native.Mathlib.Omega.{arith}
use lib.IntN.{ℤ, pos}
use lib.ListN.{length, take, replicate, length-replicate}
use Rattle.std.specs.Prelude.{Result, Ok, Err}
use Rattle.sheet.specs.declared.Numbered.{Numbered}
use Rattle.sheet.specs.declared.Refusal.{Refusal}
use Rattle.sheet.specs.Answers.{number_of, place_of}
use Rattle.numbering.specs.Outcome.{Left, lent, left_as, outcome}
use Rattle.printing.specs.Output.{accepted, refused, edge_lines, outcome_lines, lent_for}
use Rattle.printing.specs.declared.bytes.Output.{Output}
use Rattle.printing.specs.Laid.{Put}
use Rattle.sheet.specs.Amounts.{journal_numbers_per_edge}

take-replicate : {A : Type 0} (n m : ℕ) (v : A) → n ≤ m → take n (replicate m v) ≡ replicate n v
take-replicate zero m v h = refl
take-replicate (suc n) zero v h = absurd (omega arith)
take-replicate (suc n) (suc m) v h = ap (λ l. v ∷ l) (take-replicate n m v (omega arith))

module _ {x : Left (Result Numbered Refusal)} {a : Result Numbered Refusal} {polygons sequences : List ℕ} {journal rows : List ℤ} (e : left_as a polygons sequences journal rows ≡ x) {l y : Output} (n : ℕ) where
  pub accepted-so : {numbered : Numbered} → a ≡ Ok numbered → length polygons ≡ n → Put l (accepted numbered ++ edge_lines polygons sequences (length polygons)) y → Put l (outcome_lines n x) y
  unfolding outcome_lines
  accepted-so q m h = rw (← e, q, ← m) h

  pub refused-so : {refusal : Refusal} {number place : ℕ} → a ≡ Err refusal → number ≡ number_of refusal → place ≡ place_of refusal → Put l (refused number place) y → Put l (outcome_lines n x) y
  unfolding outcome_lines
  refused-so q s t h = rw (← e, q, ← s, ← t) h

-- the first numbers of lists of zeros
pub zeros-so : {l y : Output} (n : ℕ) (list : List ℤ) → n ≤ 512
    → Put l (outcome_lines (length {A = ℕ} (take n (replicate 512 0))) (outcome (lent list (take n (replicate 512 0)) (take n (replicate 512 0)) (length {A = ℕ} (take n (replicate 512 0))) (take (journal_numbers_per_edge * n) (replicate 4096 (pos 0))) (replicate 2048 (pos 0))))) y
    → Put l (outcome_lines n (outcome (lent_for n list))) y
zeros-so {l} {y} n list h a =
    subst
    (λ (m : ℕ). Put l (outcome_lines m (outcome (lent list (replicate n 0) (replicate n 0) m (replicate (journal_numbers_per_edge * n) (pos 0)) (replicate 2048 (pos 0))))) y)
    (length-replicate n 0)
    (subst
    (λ (lists : List ℕ). Put l (outcome_lines (length lists) (outcome (lent list lists lists (length lists) (replicate (journal_numbers_per_edge * n) (pos 0)) (replicate 2048 (pos 0))))) y)
    (take-replicate n 512 0 h)
    (subst
    (λ (journal : List ℤ). Put l (outcome_lines (length {A = ℕ} (take n (replicate 512 0))) (outcome (lent list (take n (replicate 512 0)) (take n (replicate 512 0)) (length {A = ℕ} (take n (replicate 512 0))) journal (replicate 2048 (pos 0))))) y)
    (take-replicate (journal_numbers_per_edge * n) 4096 (pos 0) (omega arith))
    a))
