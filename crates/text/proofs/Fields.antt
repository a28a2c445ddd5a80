-- One byte that must stand at a place: it stands, and the place moves on by one, or it does not.
use mathlib.Core.Path.{◌≡◌, refl}
use mathlib.Core.Bool.{Bool, true, false, cond}
use lib.Dec.{eqb}
use mathlib.Core.List.{List}
use Prim.Native.Nat.{ℕ, ◌+◌}
use native.Mathlib.Omega.{arith}
use borrow.Author.Tests.{eq-eqb, ne_eqb}
use Rattle.text.specs.Said.{Said, read, refused, malformed}
use Rattle.text.specs.Numbers.{byte_at, minus_at, digits_at}
use Rattle.text.specs.Lines.{past_at}

module _ (s : List ℕ) (i : ℕ) {b c : ℕ} (e : b ≡ byte_at s i) where
  pub went_on : b ≡ c → read tt (i + 1) ≡ past_at s i c
  unfolding past_at
  went_on h = rw (eq-eqb (byte_at s i) c (omega arith))

  pub stayed : (b ≡ c → ⊥) → refused malformed ≡ past_at s i c
  unfolding past_at
  stayed h = rw (ne_eqb (byte_at s i) c (λ q. h (omega arith)))

-- a minus that stands at i, and one that does not
module _ (s : List ℕ) (i : ℕ) where
  pub minus-passed : {n : ℕ} → read tt n ≡ past_at s i 45 → true ≡ minus_at s i
  unfolding past_at minus_at
  minus-passed h = by (eqb (byte_at s i) 45) h
    where
      by : {n : ℕ} (t : Bool) → ◌≡◌ {A = Said Unit} (read tt n) (cond t (read tt (i + 1)) (refused malformed)) → true ≡ t
      by true h = refl
      by false h = cc

  pub place-passed : {n : ℕ} → read tt n ≡ past_at s i 45 → n ≡ digits_at s i
  unfolding past_at minus_at digits_at
  place-passed h = by (eqb (byte_at s i) 45) h
    where
      by : {n : ℕ} (t : Bool) → ◌≡◌ {A = Said Unit} (read tt n) (cond t (read tt (i + 1)) (refused malformed)) → n ≡ cond t (i + 1) i
      by true h = cc
      by false h = cc

  pub no-minus : refused malformed ≡ past_at s i 45 → false ≡ minus_at s i
  unfolding past_at minus_at
  no-minus h = by (eqb (byte_at s i) 45) h
    where
      by : (t : Bool) → ◌≡◌ {A = Said Unit} (refused malformed) (cond t (read tt (i + 1)) (refused malformed)) → false ≡ t
      by true h = cc
      by false h = refl

  pub place-stays : refused malformed ≡ past_at s i 45 → i ≡ digits_at s i
  unfolding digits_at
  place-stays h = rw (← no-minus h)
