-- A coordinate moved up by a million: what `shifted` computes is `shift`, and nothing wraps on the way.
use mathlib.Core.Path.{◌≡◌, refl, ap}
use mathlib.Core.Bool.{Bool, true, false, cond}
use Prim.Native.Nat.{ℕ, suc, ◌-◌, ◌≤◌, ◌<◌}
use native.Mathlib.Omega.{arith}
use lib.IntN.{ℤ, pos, negsuc, ◌-ℤ◌, nat_abs}
use lib.Signed.{lt_z, mag}
use mir.Syntax.{w32}
use mir.Val.{SFits, to_z, of_z}
use borrow.Author.Tests.{le-ltb, ltb-true, ltb-false}
use Rattle.std.specs.Int.{int_max}
use Rattle.laws.proofs.Bits.{read_back}
use Rattle.sheet.specs.Rank.{shift}

below : (z : ℤ) → lt_z (negsuc 999999) z ≡ false → 0 ≡ shift z
unfolding shift
below (pos n) h = let z : ◌≡◌ {A = ℕ} 0 1 = cc in absurd (omega arith)
below (negsuc n) h = let l : 999999 ≤ n = ltb-false _ _ h in omega arith

above : (z : ℤ) → lt_z (negsuc 999999) z ≡ true → z -ℤ negsuc 999999 ≡ pos (shift z)
unfolding shift
above (pos n) h = refl
above (negsuc n) h =
    let l : n < 999999 = ltb-true _ _ h in
    let e : 1000000 - suc n ≡ 999999 - n = omega arith in
    simp (le-ltb 1000000 (suc n) (omega arith), e)

-- the higher of a coordinate and the least one, and how far it lies above that
taken_from : (z : ℤ) → nat_abs (int_max z (negsuc 999999) -ℤ negsuc 999999) ≡ shift z
taken_from z = by (lt_z (negsuc 999999) z) refl
  where
    by : (t : Bool) → lt_z (negsuc 999999) z ≡ t → nat_abs (cond t z (negsuc 999999) -ℤ negsuc 999999) ≡ shift z
    by true e = ap nat_abs (above z e)
    by false e = below z e

pub taken : (z : ℤ) → SFits w32 z → {m : ℤ} → m ≡ int_max (to_z w32 (of_z w32 z)) (negsuc 999999) → mag m < 2147483648 → nat_abs (to_z w32 (of_z w32 m) -ℤ negsuc 999999) ≡ shift z
taken z f {m} e h = rw (read_back m h, e, read_back z f.sfits) (taken_from z)
