-- A list that is filled from the front: the first n numbers are a function's.
use mathlib.Core.Path.{◌≡◌, refl, ◌∙◌}
use mathlib.Core.List.{List}
use mathlib.Core.Logic.{⊎_elim}
use Prim.Native.Nat.{ℕ, ◌+◌, ◌<◌}
use native.Mathlib.Omega.{arith}
use lib.ListN.{length, get_or, set, length-set}
use lib.Seq.{get_or-set_same, get_or-set_other}
use Rattle.laws.proofs.Deciding.{lt-or-le}

pub record Filled (f : ℕ → ℕ) (old new : List ℕ) (n : ℕ) : Type 0 where
  pub size : length new ≡ length old
  pub value : (k : ℕ) → k < n → get_or new k 0 ≡ f k

module _ (f : ℕ → ℕ) where
  pub filled_none : (old : List ℕ) → Filled f old old 0
  filled_none old = record { size = refl; value = λ k l. absurd (omega arith) }

  pub filled_more : {old new : List ℕ} {n v : ℕ} → Filled f old new n → n < length new → v ≡ f n → Filled f old (set new n v) (n + 1)
  filled_more {old} {new} {n} {v} h room e = record {
    size = length-set new n v ∙ h.size;
    value = λ k l. ⊎_elim
        (λ m. get_or-set_other new n k v 0 (λ q. omega arith) ∙ h.value k m)
        (λ m. let q : k ≡ n = omega arith in rw q (get_or-set_same new n v 0 room ∙ e))
        (lt-or-le k n);
  }
