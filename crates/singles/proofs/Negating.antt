-- A whole number and its negative are of one size, so a bound on one of them is a bound on both.
use mathlib.Core.Path.{◌≡◌, refl}
use Prim.Native.Nat.{zero, suc}
use lib.IntN.{ℤ, pos, negsuc, neg_ℤ, nat_abs}

pub negated_size : (z : ℤ) → nat_abs (neg_ℤ z) ≡ nat_abs z
negated_size (pos zero) = refl
negated_size (pos (suc n)) = refl
negated_size (negsuc n) = refl
