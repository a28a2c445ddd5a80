-- Whole numbers as single-precision numbers. Up to 2 ^ 24 in size each of them has a float of its own: the cast may be asked for it, and rounds nothing.
use mathlib.Core.Path.{◌≡◌, refl}
use Prim.Native.Nat.{◌≤◌}
use lib.IntN.{ℤ, pos, negsuc, nat_abs}
use lib.Ieee.{binary32, of_int}
use lib.Ieee.Back.{round_whole}
use Rattle.singles.specs.Singles.{is_negative, Exactly, single}

-- what the cast gives
pub of_int_is : (z : ℤ) → of_int binary32 z ≡ single z 1
unfolding of_int single
of_int_is (pos n) = refl
of_int_is (negsuc n) = refl

pub whole-exact : (z : ℤ) → nat_abs z ≤ 16777216 → Exactly (single z 1) z 1
unfolding single
whole-exact z h = round_whole binary32 (is_negative z) (nat_abs z) h
