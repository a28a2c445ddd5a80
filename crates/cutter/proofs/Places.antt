-- A place is exact: each of its numbers is a whole number of 64ths, which has a float of its own, and a zero is plus zero. So the point is read back from
-- its place on either machine. Some values are worked to the bit.
use mathlib.Core.Path.{◌≡◌, refl}
use mathlib.Core.Bool.{true}
use Prim.Native.Nat.{ℕ, ◌≤◌}
use native.Mathlib.Omega.{arith}
use lib.IntN.{ℤ, pos, negsuc, neg_ℤ, nat_abs, neg_ℤ-neg_ℤ}
use lib.Ieee.{binary32, round, of_bits, to_bits, div}
use Rattle.sheet.specs.declared.Point.{Point}
use Rattle.sheet.specs.Points.{in_range}
use Rattle.singles.specs.Singles.{Exactly, single, read}
use Rattle.singles.proofs.SixtyFourths.{sixty-fourth-exact, over-64}
use Rattle.singles.proofs.ReadingBack.{read-exactly}
use Rattle.cutter.specs.declared.machines.Machine.{Machine}
use Rattle.cutter.specs.declared.machines.Machine.TheVariants.{Flatbed, RollFeeder}
use Rattle.cutter.specs.Places.{millimetres_of, place_for, point_at, ExactPlace}
use Rattle.cutter.proofs.Limits.{x-limit, y-limit, negated-limit}

module _ (v : ℤ) (h : nat_abs v ≤ 1000000) where
  -- what the code works out: the literal is 64
  pub by-quotient : div binary32 (single v 1) (of_bits binary32 0x4280_0000) ≡ millimetres_of v
  unfolding of_bits millimetres_of
  by-quotient = over-64 v (omega (arith, h))

  exact : Exactly (millimetres_of v) v 64
  unfolding millimetres_of
  exact = sixty-fourth-exact v (omega (arith, h))

  units-back : read 64 (millimetres_of v) ≡ v
  units-back = read-exactly (millimetres_of v) v 64 exact

negated_back : (v : ℤ) → nat_abs v ≤ 1000000 → neg_ℤ (read 64 (millimetres_of (neg_ℤ v))) ≡ v
negated_back v h = rw (units-back (neg_ℤ v) (negated-limit v h)) (neg_ℤ-neg_ℤ v)

pub point-back : (m : Machine) (p : Point) → in_range p ≡ true → point_at m (place_for m p) ≡ p
unfolding place_for point_at
point-back Flatbed p t = λ i. record { x = units-back p.x (x-limit p t) i; y = units-back p.y (y-limit p t) i }
point-back RollFeeder p t = λ i. record { x = negated_back p.x (x-limit p t) i; y = units-back p.y (y-limit p t) i }

pub place-exact : (m : Machine) (p : Point) → in_range p ≡ true → ExactPlace m p (place_for m p)
unfolding place_for
place-exact Flatbed p t = (exact p.x (x-limit p t), exact p.y (y-limit p t))
place-exact RollFeeder p t = (exact p.y (y-limit p t), exact (neg_ℤ p.x) (negated-limit p.x (x-limit p t)))

-- ---- worked values
bits : ℤ → ℕ
bits v = to_bits binary32 (millimetres_of v)

record Bits : Type 0 where
  zero : bits (pos 0) ≡ 0
  one_unit : bits (pos 1) ≡ 0x3c80_0000
  minus_one_unit : bits (negsuc 0) ≡ 0xbc80_0000
  most : bits (pos 1000000) ≡ 0x4674_2400
  least : bits (negsuc 999999) ≡ 0xc674_2400
  many_digits : bits (pos 999999) ≡ 0x4674_23f0

worked-bits : Bits
unfolding bits millimetres_of single round to_bits
worked-bits = record { zero = refl; one_unit = refl; minus_one_unit = refl; most = refl; least = refl; many_digits = refl }

-- the point (0, -3): on the roll feeder -0 stays plus zero
on_axis : Point
on_axis = record { x = pos 0; y = negsuc 2 }

record OnAxis : Type 0 where
  flatbed : place_for Flatbed on_axis ≡ record { first = of_bits binary32 0; second = of_bits binary32 0xbd40_0000 }
  roll_feeder : place_for RollFeeder on_axis ≡ record { first = of_bits binary32 0xbd40_0000; second = of_bits binary32 0 }

worked-point : OnAxis
unfolding on_axis place_for millimetres_of single round of_bits
worked-point = record { flatbed = refl; roll_feeder = refl }
