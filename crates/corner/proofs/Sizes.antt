-- What the turn at a point is computed from fits 64 bits: gaps of coordinates, their products and the difference of two products.
use mathlib.Core.Path.{◌≡◌, ◌∙◌}
use mathlib.Core.Bool.{true}
use Prim.Native.Nat.{◌≤◌, ◌<◌}
use native.Mathlib.Nat.{mul-le-mul}
use native.Mathlib.Omega.{arith}
use lib.Dec.{leb}
use lib.IntN.{ℤ, pos, negsuc, nat_abs, ◌-ℤ◌, ◌*ℤ◌}
use mir.Syntax.{w32, w64}
use mir.Val.{SFits, to_z, of_z}
use mir.ValLaws.{to_z-of_z}
use borrow.Author.Tests.{leb-true}
use Rattle.laws.proofs.Deciding.{both_true}
use Rattle.laws.proofs.Magnitudes.{nat_abs-times, nat_abs-difference, mag-nat_abs, nat_abs-mag}
use Rattle.sheet.specs.declared.Point.{Point}
use Rattle.sheet.specs.Points.{within, in_range}
use Rattle.sheet.specs.Turning.{Direction, towards, cross}

-- as far as two points in the range can lie from each other
pub record Near (d : Direction) : Type 0 where
  pub right : nat_abs d.right ≤ 2000000
  pub up : nat_abs d.up ≤ 2000000

fits : (z : ℤ) → nat_abs z < 9223372036854775808 → SFits w64 z
fits z h = record { sfits = omega (arith, mag-nat_abs z) }

-- the gap between two numbers of 32 bits
pub gap-fits : (x y : ℤ) → SFits w32 x → SFits w32 y → SFits w64 (x -ℤ y)
gap-fits x y f g = fits (x -ℤ y) (omega (arith, nat_abs-difference x y, nat_abs-mag x, nat_abs-mag y, f.sfits, g.sfits))

-- the product of two numbers up to 2,000,000
product_small : (x y : ℤ) → nat_abs x ≤ 2000000 → nat_abs y ≤ 2000000 → nat_abs (x *ℤ y) ≤ 4000000000000
product_small x y f g = omega (arith, nat_abs-times x y, mul-le-mul f g)

-- the turn from one direction to another
pub cross-fits : (d b : Direction) → Near d → Near b → SFits w64 (cross d b)
unfolding cross
cross-fits d b f g =
    fits (cross d b)
    (omega (
      arith,
      nat_abs-difference (d.right *ℤ b.up) (d.up *ℤ b.right),
      product_small d.right b.up f.right g.up,
      product_small d.up b.right f.up g.right,
    ))

-- .. of four numbers as the code keeps them
module _ (d b : Direction) (f : Near d) (g : Near b) {dr du br bu : ℤ} (e : (dr ≡ d.right) × (du ≡ d.up) × (br ≡ b.right) × (bu ≡ b.up)) where
  pub first_fits : SFits w64 (dr *ℤ bu)
  first_fits = rw (e.0, e.3) (fits (d.right *ℤ b.up) (omega (arith, product_small d.right b.up f.right g.up)))

  pub second_fits : SFits w64 (du *ℤ br)
  second_fits = rw (e.1, e.2) (fits (d.up *ℤ b.right) (omega (arith, product_small d.up b.right f.up g.right)))

  difference-is : to_z w64 (of_z w64 (dr *ℤ bu)) -ℤ to_z w64 (of_z w64 (du *ℤ br)) ≡ cross d b
  unfolding cross
  difference-is = rw (to_z-of_z w64 (dr *ℤ bu) first_fits, to_z-of_z w64 (du *ℤ br) second_fits, e.0, e.1, e.2, e.3)

  pub turn-fits : SFits w64 (to_z w64 (of_z w64 (dr *ℤ bu)) -ℤ to_z w64 (of_z w64 (du *ℤ br)))
  turn-fits = rw difference-is (cross-fits d b f g)

  pub turn-kept : to_z w64 (of_z w64 (to_z w64 (of_z w64 (dr *ℤ bu)) -ℤ to_z w64 (of_z w64 (du *ℤ br)))) ≡ cross d b
  turn-kept = to_z-of_z w64 _ turn-fits ∙ difference-is

-- points in the range are near each other
within-small : (z : ℤ) → within z ≡ true → nat_abs z ≤ 1000000
unfolding within
within-small (pos n) h = leb-true n 1000000 h
within-small (negsuc n) h = let l : n ≤ 999999 = leb-true _ _ (both_true (leb n 999999) true h).0 in omega arith

pub near : (p q : Point) → in_range p ≡ true → in_range q ≡ true → Near (towards p q)
unfolding in_range towards
near p q hp hq =
    let a = both_true (within p.x) (within p.y) hp in
    let b = both_true (within q.x) (within q.y) hq in
    record {
      right = omega (arith, nat_abs-difference q.x p.x, within-small q.x b.0, within-small p.x a.0);
      up = omega (arith, nat_abs-difference q.y p.y, within-small q.y b.1, within-small p.y a.1);
    }

-- what a call of `gap` gave, as the code keeps it
pub gap-kept : (r to from : ℤ) → within to ≡ true → within from ≡ true → r ≡ to_z w32 (of_z w32 to) -ℤ to_z w32 (of_z w32 from) →
    to_z w64 (of_z w64 r) ≡ to -ℤ from
gap-kept r to from f g e =
    let t = short to f in
    let s = short from g in
    rw (e, to_z-of_z w32 to t, to_z-of_z w32 from s) (to_z-of_z w64 (to -ℤ from) (gap-fits to from t s))
  where
    short : (z : ℤ) → within z ≡ true → SFits w32 z
    short z h = record { sfits = omega (arith, mag-nat_abs z, within-small z h) }
