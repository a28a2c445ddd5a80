-- A search by halving for the first number below n that passes a test which, once passed, is passed by all that follow.
-- Below low all numbers fail, and from high on all pass. Where the two meet is the first that passes.
use mathlib.Core.Path.{◌≡◌}
use mathlib.Core.Bool.{Bool, true, false, not, cond}
use mathlib.Core.Logic.{⊎_elim}
use Prim.Native.Nat.{ℕ, ◌+◌, ◌-◌, ◌≤◌, ◌<◌}
use native.Mathlib.Omega.{arith}
use Rattle.laws.specs.Counting.{first}
use Rattle.laws.proofs.Deciding.{true-or-false, not-both}
use Rattle.laws.proofs.First.{first-is}

pub record Halving (p : ℕ → Bool) (n low high : ℕ) : Type 0 where
  pub meet : low ≤ high
  pub within : high ≤ n
  pub fail : (k : ℕ) → k < low → p k ≡ false
  pub pass : (k : ℕ) → high ≤ k → k < n → p k ≡ true

-- what is left between the two after one number tried
pub halving-less : {low high m : ℕ} → low ≤ m → m < high → (t : Bool) → {low' high' : ℕ} → low' ≡ cond t (m + 1) low → high' ≡ cond t high m → high' - low' < high - low
halving-less lm mh true el eh = omega arith
halving-less lm mh false el eh = omega arith

module _ (p : ℕ → Bool) (n : ℕ) where
  pub halving-all : Halving p n 0 n
  halving-all = record { meet = omega arith; within = omega arith; fail = λ k l. absurd (omega arith); pass = λ k l h. absurd (omega arith) }

  pub halving-met : {low high : ℕ} → Halving p n low high → high ≤ low → low ≡ first p n
  halving-met {low} h l = first-is p n low (omega arith) (λ m. h.pass low l m) h.fail

  module _ (stays : (a b : ℕ) → a ≤ b → b < n → p a ≡ true → p b ≡ true) where
    -- one number between the two tried
    pub halving-more : {low high : ℕ} → Halving p n low high → (m : ℕ) → low ≤ m → m < high → (t : Bool) → p m ≡ not t → {low' high' : ℕ} → low' ≡ cond t (m + 1) low → high' ≡ cond t high m → Halving p n low' high'
    halving-more h m lm mh true e el eh = record {
      meet = omega arith;
      within = omega arith;
      fail = λ k l. ⊎_elim (λ q. absurd (not-both (stays k m (omega arith) (omega arith) q) e)) (λ q. q) (true-or-false (p k));
      pass = λ k l kn. h.pass k (omega arith) kn;
    }
    halving-more h m lm mh false e el eh = record {
      meet = omega arith;
      within = omega arith;
      fail = λ k l. h.fail k (omega arith);
      pass = λ k l kn. stays m k (omega arith) kn e;
    }
