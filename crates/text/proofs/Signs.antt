-- A number with its sign in 32 bits: 0 minus a number below 2 to the 31 does not wrap and is its negative.
use mathlib.Core.Path.{◌≡◌, sym, ap, ◌∙◌, subst}
use mathlib.Core.Bool.{Bool, true, false}
use Prim.Native.Nat.{ℕ, zero, suc, ◌≤◌, ◌<◌}
use native.Mathlib.Omega.{arith}
use lib.IntN.{ℤ, pos, neg_ℤ, ◌-ℤ◌, +ℤ_idl}
use lib.Signed.{mag}
use mir.Syntax.{w32}
use mir.Val.{SFits, to_z, of_z}
use mir.ValLaws.{to_z_pos}
use Rattle.sheet.proofs.Signed.{read_back}
use Rattle.text.specs.Numbers.{with_sign}

mag-negative : (n : ℕ) → mag (neg_ℤ (pos n)) ≤ n
mag-negative zero = omega arith
mag-negative (suc n) = omega arith

pub mag-signed : (minus : Bool) (n : ℕ) → mag (with_sign minus n) ≤ n
unfolding with_sign
mag-signed true n = mag-negative n
mag-signed false n = omega arith

module _ (n : ℕ) (h : n < 2147483648) where
  pub unchanged : to_z w32 n ≡ pos n
  unchanged = to_z_pos w32 n h

  difference : pos 0 -ℤ to_z w32 n ≡ neg_ℤ (pos n)
  difference = ap (λ (z : ℤ). pos 0 -ℤ z) unchanged ∙ +ℤ_idl (neg_ℤ (pos n))

  pub negated_fits : SFits w32 (pos 0 -ℤ to_z w32 n)
  negated_fits = subst (SFits w32) (sym difference) (record { sfits = omega (arith, mag-negative n) })

  pub negated : to_z w32 (of_z w32 (pos 0 -ℤ to_z w32 n)) ≡ neg_ℤ (pos n)
  negated = ap (λ (z : ℤ). to_z w32 (of_z w32 z)) difference ∙ read_back (neg_ℤ (pos n)) (omega (arith, mag-negative n))
