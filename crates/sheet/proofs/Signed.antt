-- Signed 32-bit numbers as the code has them, bits that are read back, and the tests on them: the tests' outcomes say what the numbers are.
use mathlib.Core.Path.{◌≡◌, refl, sym, ap, ◌∙◌}
use mathlib.Core.Bool.{Bool, true, false}
use Prim.Native.Nat.{ℕ, ◌<◌}
use lib.IntN.{ℤ, pos, negsuc}
use lib.Signed.{mag}
use mir.Syntax.{w32}
use mir.Val.{to_z, of_z}
use lib.Dec.{eqb}
use native.Mathlib.Omega.{arith}
use borrow.Author.Tests.{eq-eqb, ne_eqb, eqb-true, eqb-false}
use Rattle.sheet.specs.Points.{same_z}
pub use Rattle.laws.proofs.Bits.{read_back}

pub bits-same : (a b : ℤ) → mag a < 2147483648 → mag b < 2147483648 → of_z w32 a ≡ of_z w32 b → a ≡ b
bits-same a b ha hb e = sym (read_back a ha) ∙ ap (to_z w32) e ∙ read_back b hb

pub same_z-self : (a : ℤ) → same_z a a ≡ true
unfolding same_z
same_z-self (pos a) = eq-eqb a a refl
same_z-self (negsuc a) = eq-eqb a a refl

pub same_z-yes : (a b : ℤ) → a ≡ b → same_z a b ≡ true
same_z-yes a b e = rw e (same_z-self b)

pub same_z-no : (a b : ℤ) → (a ≡ b → ⊥) → same_z a b ≡ false
unfolding same_z
same_z-no (pos a) (pos b) h = ne_eqb a b (λ e. h (ap pos e))
same_z-no (pos a) (negsuc b) h = refl
same_z-no (negsuc a) (pos b) h = refl
same_z-no (negsuc a) (negsuc b) h = ne_eqb a b (λ e. h (ap negsuc e))

pub same_z-true : (a b : ℤ) → same_z a b ≡ true → a ≡ b
unfolding same_z
same_z-true (pos a) (pos b) h = ap pos (eqb-true a b h)
same_z-true (pos a) (negsuc b) h = let z : ◌≡◌ {A = ℕ} 0 1 = cc in absurd (omega arith)
same_z-true (negsuc a) (pos b) h = let z : ◌≡◌ {A = ℕ} 0 1 = cc in absurd (omega arith)
same_z-true (negsuc a) (negsuc b) h = ap negsuc (eqb-true a b h)

-- the code compares bits
pub bits-same_z : (a b : ℤ) → mag a < 2147483648 → mag b < 2147483648 → eqb (of_z w32 a) (of_z w32 b) ≡ same_z a b
bits-same_z a b ha hb = by (eqb (of_z w32 a) (of_z w32 b)) refl
  where
    by : (t : Bool) → eqb (of_z w32 a) (of_z w32 b) ≡ t → t ≡ same_z a b
    by true e = sym (same_z-yes a b (bits-same a b ha hb (eqb-true _ _ e)))
    by false e = sym (same_z-no a b (λ h. eqb-false _ _ e (ap (of_z w32) h)))
