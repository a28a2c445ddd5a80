-- Going back along a list that runs. An edge with a sequence number above 0 stands right behind the one with the number before, in its polygon; so the
-- edge with any smaller number stands as many positions before it as the numbers differ. The first polygon is 1 and each step goes at most to the next,
-- so every smaller polygon number stands earlier. From the first position neither number can grow faster than the positions do.
use mathlib.Core.Path.{◌≡◌, ap}
use mathlib.Core.List.{List}
use mathlib.Core.Logic.{⊎_elim}
use Prim.Native.Nat.{ℕ, zero, suc, ◌+◌, ◌≤◌, ◌<◌}
use native.Mathlib.Omega.{arith}
use lib.ListN.{get_or}
use Rattle.laws.proofs.Deciding.{lt-or-le}
use Rattle.sheet.specs.TurnList.{NumberLists}
use Rattle.cutter.specs.Runs.{RunsTo}

module _ {v : NumberLists} {turns : List ℕ} {n : ℕ} (R : RunsTo v turns n) where
  abbrev polygon : ℕ → ℕ
  polygon i = v.polygon (get_or turns i 0)

  abbrev sequence : ℕ → ℕ
  sequence i = v.sequence (get_or turns i 0)

  pub sequence-within : (i : ℕ) → i < n → sequence i ≤ i
  sequence-within zero l = omega (arith, R.begins l)
  sequence-within (suc i) l = let w = sequence-within i (omega arith) in ⊎_elim (λ s. omega arith) (λ s. omega arith) (R.onward i l)

  pub polygon-within : (i : ℕ) → i < n → (1 ≤ polygon i) × (polygon i ≤ suc i)
  polygon-within zero l = omega (arith, R.begins l)
  polygon-within (suc i) l = let w = polygon-within i (omega arith) in ⊎_elim (λ s. omega arith) (λ s. omega arith) (R.onward i l)

  -- k positions before: the same polygon, k less in sequence
  pub back : (k i j : ℕ) → i < n → j + k ≡ i → k ≤ sequence i → (polygon j ≡ polygon i) × (sequence j + k ≡ sequence i)
  back zero i j l q m = let e : j ≡ i = omega arith in omega (arith, ap polygon e, ap sequence e)
  back (suc k) zero j l q m = absurd (omega arith)
  back (suc k) (suc i) j l q m = ⊎_elim
      (λ s. let w = back k i j (omega arith) (omega arith) (omega arith) in omega arith)
      (λ s. absurd (omega arith))
      (R.onward i l)

  -- a smaller polygon number stands at i or earlier
  pub polygon-there : (k i : ℕ) → i < n → 1 ≤ k → k ≤ polygon i → (j : ℕ) × (j ≤ i) × (polygon j ≡ k)
  polygon-there k zero l o m = (0, omega arith, omega (arith, o, m, R.begins l))
  polygon-there k (suc i) l o m = ⊎_elim
      (λ h. (suc i, omega arith, ⊎_elim (λ s. omega arith) (λ s. omega arith) (R.onward i l)))
      (λ h. let w = polygon-there k i (omega arith) o h in (w.0, omega (arith, w.1), w.2))
      (lt-or-le (polygon i) k)
