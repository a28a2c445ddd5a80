-- Round an outline, told by the sequence numbers along a turn list: the next edge stands behind, or the sequence number back.
use mathlib.Core.Path.{◌≡◌, refl}
use mathlib.Core.List.{List}
use Prim.Native.Nat.{ℕ, suc, ◌-◌, ◌≤◌, ◌<◌}
use native.Mathlib.Omega.{arith}
use borrow.Author.Tests.{eq-eqb, ne_eqb, lt-ltb, le-ltb}
use lib.Dec.{ltb}
use lib.ListN.{length, get_or}
use Rattle.laws.proofs.Tests.{and-false}
use Rattle.cutter.specs.Outlines.{next_at}

module _ (sequences turns : List ℕ) (i : ℕ) where
  pub next-behind : (b : ℕ) → b ≡ suc i → b < length turns → (get_or sequences (get_or turns b 0) 0 ≡ 0 → ⊥) → b ≡ next_at sequences turns i
  unfolding next_at
  next-behind b q l z =
      let f = rw q at z in
      rw (lt-ltb (suc i) (length turns) (omega (arith, q, l)), ne_eqb (get_or sequences (get_or turns (suc i) 0) 0) 0 f) q

  pub next-back : (b : ℕ) → b ≡ suc i → get_or sequences (get_or turns b 0) 0 ≡ 0 → i - get_or sequences (get_or turns i 0) 0 ≡ next_at sequences turns i
  unfolding next_at
  next-back b q z = rw (eq-eqb (get_or sequences (get_or turns (suc i) 0) 0) 0 (rw q at z), and-false (ltb (suc i) (length turns))) refl

  pub next-back-last : length turns ≤ suc i → i - get_or sequences (get_or turns i 0) 0 ≡ next_at sequences turns i
  unfolding next_at
  next-back-last l = rw (le-ltb (suc i) (length turns) l) refl
