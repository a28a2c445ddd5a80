-- The size of coordinates in range, and of their negatives: a million at most, which a signed number of 32 bits and a float both hold.
use mathlib.Core.Path.{◌≡◌}
use mathlib.Core.Bool.{true}
use Prim.Native.Nat.{◌≤◌}
use native.Mathlib.Omega.{arith}
use lib.Dec.{leb}
use lib.IntN.{ℤ, pos, negsuc, neg_ℤ, nat_abs}
use mir.Syntax.{w32}
use mir.Val.{SFits}
use borrow.Author.Tests.{leb-true}
use Rattle.laws.proofs.Deciding.{both_true}
use Rattle.sheet.specs.declared.Point.{Point}
use Rattle.sheet.specs.Points.{within, in_range}
use Rattle.singles.proofs.Negating.{negated_size}

in-limits : (z : ℤ) → within z ≡ true → nat_abs z ≤ 1000000
unfolding within
in-limits (pos n) t = leb-true n 1000000 t
in-limits (negsuc n) t = let h = leb-true n 999999 (both_true (leb n 999999) true t).0 in omega (arith, h)

pub limit-fits : (z : ℤ) → nat_abs z ≤ 1000000 → SFits w32 z
limit-fits (pos n) h = record { sfits = omega (arith, h) }
limit-fits (negsuc n) h = record { sfits = omega (arith, h) }

module _ (p : Point) (t : in_range p ≡ true) where
  pub x-limit : nat_abs p.x ≤ 1000000
  unfolding in_range
  x-limit = in-limits p.x (both_true (within p.x) (within p.y) t).0

  pub y-limit : nat_abs p.y ≤ 1000000
  unfolding in_range
  y-limit = in-limits p.y (both_true (within p.x) (within p.y) t).1

module _ (z : ℤ) (h : nat_abs z ≤ 1000000) where
  pub negated-limit : nat_abs (neg_ℤ z) ≤ 1000000
  negated-limit = rw (negated_size z) h

  pub negated_fits : SFits w32 (neg_ℤ z)
  negated_fits = limit-fits (neg_ℤ z) negated-limit
