-- The look-up table after a row was given its numbers: the row has them, where it is there and 32 signed bits hold them, and every other row has what it
-- had. The answers are lists, of which an edge's place is set.
use mathlib.Core.Path.{◌≡◌}
use mathlib.Core.Logic.{inl, inr, ⊎_elim}
use mathlib.Core.List.{List, [], ◌∷◌}
use Prim.Native.Nat.{ℕ, ◌+◌, ◌*◌, ◌<◌}
use native.Mathlib.Omega.{arith}
use lib.IntN.{ℤ, pos}
use lib.ListN.{length, get_or}
use lib.Seq.{length-sets}
use lib.Signed.{mag}
use Rattle.laws.proofs.Deciding.{lt-or-le}
use Rattle.laws.proofs.Sets.{get_or-sets-other, get_or-sets-in}
use Rattle.steps.specs.SweepDown.{natural_part}
use Rattle.journal.specs.Layout.{fitting}
use Rattle.steps.specs.SweepDown.{Pair}
use Rattle.sweep.specs.Lookup.{narrowed, numbers_in, given_in}
use Rattle.sweep.proofs.Sums.{narrowed-held}
use Rattle.steps.specs.Swept.{numbers_per_row}

module _ (s : List ℤ) (r : ℕ) (v : Pair) where
  abbrev stored : List ℤ
  stored = pos (fitting v.polygon) ∷ narrowed v.sequence ∷ []

  pub length-given : length (given_in s r v) ≡ length s
  unfolding given_in
  length-given = length-sets s (numbers_per_row * r) stored

  pub given-here : numbers_per_row * r + 1 < length s → v.polygon < 2147483648 → mag v.sequence < 2147483648 → numbers_in (given_in s r v) r ≡ v
  unfolding given_in numbers_in natural_part
  given-here has p q =
      let zeroth : numbers_per_row * r + 0 ≡ numbers_per_row * r = omega arith in
      let polygon : fitting v.polygon ≡ v.polygon = omega arith in
      rw (rw zeroth at (at 0 (omega arith)), at 1 (omega arith), polygon, narrowed-held v.sequence q)
    where
      at : (k : ℕ) → k < 2 → get_or (given_in s r v) (numbers_per_row * r + k) (pos 0) ≡ get_or stored k (pos 0)
      at k l = get_or-sets-in (pos 0) stored s (numbers_per_row * r) k l (omega arith)

  pub given-elsewhere : (q : ℕ) → (q ≡ r → ⊥) → numbers_in (given_in s r v) q ≡ numbers_in s q
  unfolding given_in numbers_in
  given-elsewhere q d =
      let zeroth : numbers_per_row * q + 0 ≡ numbers_per_row * q = omega arith in
      rw (rw zeroth at (same 0 (omega arith)), same 1 (omega arith))
    where
      same : (k : ℕ) → k < 2 → get_or (given_in s r v) (numbers_per_row * q + k) (pos 0) ≡ get_or s (numbers_per_row * q + k) (pos 0)
      same k l = get_or-sets-other (pos 0) stored s (numbers_per_row * r) (numbers_per_row * q + k) (⊎_elim (λ b. inl (omega arith)) (λ b. inr (omega (arith, d))) (lt-or-le q r))
