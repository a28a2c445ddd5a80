-- How large the integers are that minus, products, sums and differences give: laws about `nat_abs`, for `omega` to read.
use mathlib.Core.Path.{◌≡◌, refl}
use mathlib.Core.Bool.{Bool, true, false, cond}
use Prim.Native.Nat.{ℕ, zero, suc, ◌+◌, ◌*◌, ◌-◌, ◌≤◌}
use native.Mathlib.Omega.{arith}
use lib.Dec.{ltb}
use lib.IntN.{ℤ, pos, negsuc, neg_ℤ, nat_abs, ◌+ℤ◌, ◌-ℤ◌, ◌*ℤ◌}
use lib.Signed.{mag}
use borrow.Author.Tests.{ltb-true, ltb-false}

pub nat_abs-neg : (x : ℤ) → nat_abs (neg_ℤ x) ≡ nat_abs x
nat_abs-neg (pos zero) = refl
nat_abs-neg (pos (suc n)) = refl
nat_abs-neg (negsuc n) = refl

pub nat_abs-times : (x y : ℤ) → nat_abs (x *ℤ y) ≡ nat_abs x * nat_abs y
nat_abs-times (pos a) (pos b) = refl
nat_abs-times (pos a) (negsuc b) = nat_abs-neg (pos (a * suc b))
nat_abs-times (negsuc a) (pos b) = nat_abs-neg (pos (suc a * b))
nat_abs-times (negsuc a) (negsuc b) = refl

nat_abs-less : (a b : ℕ) → nat_abs (cond (ltb a b) (negsuc (b - suc a)) (pos (a - b))) ≤ a + b
nat_abs-less a b = by (ltb a b) refl
  where
    by : (t : Bool) → ltb a b ≡ t → nat_abs (cond t (negsuc (b - suc a)) (pos (a - b))) ≤ a + b
    by true e = omega (arith, ltb-true a b e)
    by false e = omega (arith, ltb-false a b e)

nat_abs-sum : (x y : ℤ) → nat_abs (x +ℤ y) ≤ nat_abs x + nat_abs y
nat_abs-sum (pos a) (pos b) = omega arith
nat_abs-sum (pos a) (negsuc b) = nat_abs-less a (suc b)
nat_abs-sum (negsuc a) (pos b) = omega (arith, nat_abs-less b (suc a))
nat_abs-sum (negsuc a) (negsuc b) = omega arith

pub nat_abs-difference : (x y : ℤ) → nat_abs (x -ℤ y) ≤ nat_abs x + nat_abs y
nat_abs-difference x y = omega (arith, nat_abs-sum x (neg_ℤ y), nat_abs-neg y)

-- the toolchain measures by `mag`, one less for negative numbers
pub mag-nat_abs : (x : ℤ) → mag x ≤ nat_abs x
mag-nat_abs (pos n) = omega arith
mag-nat_abs (negsuc n) = omega arith

pub nat_abs-mag : (x : ℤ) → nat_abs x ≤ suc (mag x)
nat_abs-mag (pos n) = omega arith
nat_abs-mag (negsuc n) = omega arith
