-- `Machine::place_for` meets its contract: a point in range has coordinates that `millimetres` takes, negated too, and each arm puts what it gives in its
-- machine's order.
use mathlib.Core.Path.{◌≡◌, ap, ◌∙◌}
use mathlib.Core.Bool.{true}
use Prim.Native.Nat.{◌≤◌}
use lib.IntN.{ℤ, pos, neg_ℤ, ◌-ℤ◌, +ℤ_idl, nat_abs}
use mir.Syntax.{w32}
use mir.Val.{to_z, of_z}
use mir.ValLaws.{to_z-of_z}
use Rattle.sheet.specs.declared.Point.{Point}
use Rattle.sheet.specs.Points.{in_range}
use Rattle.cutter.specs.Places.{millimetres_of, place_for}
use Rattle.cutter.proofs.Limits.{x-limit, y-limit, limit-fits, negated-limit, negated_fits}
use Rattle.cutter.proofs.machines.Machine.place_for.Goals as goal

-- the coordinates as they reach a callee
module _ (p : Point) (h : in_range p ≡ true) where
  x-back : to_z w32 (of_z w32 p.x) ≡ p.x
  x-back = to_z-of_z w32 p.x (limit-fits p.x (x-limit p h))

  y-back : to_z w32 (of_z w32 p.y) ≡ p.y
  y-back = to_z-of_z w32 p.y (limit-fits p.y (y-limit p h))

  y-asked : nat_abs (to_z w32 (of_z w32 p.y)) ≤ 1000000
  y-asked = rw y-back (y-limit p h)

  negated_is : pos 0 -ℤ to_z w32 (of_z w32 p.x) ≡ neg_ℤ p.x
  negated_is = rw x-back (+ℤ_idl (neg_ℤ p.x))

  negated-back : to_z w32 (of_z w32 (pos 0 -ℤ to_z w32 (of_z w32 p.x))) ≡ neg_ℤ p.x
  negated-back = ap (λ (z : ℤ). to_z w32 (of_z w32 z)) negated_is ∙ to_z-of_z w32 (neg_ℤ p.x) (negated_fits p.x (x-limit p h))

pub millimetres-requires : goal.millimetres-requires
millimetres-requires c = rw (x-back c.args.point c.requires) (x-limit c.args.point c.requires)

pub millimetres-requires-in-Flatbed : goal.millimetres-requires-in-Flatbed
millimetres-requires-in-Flatbed c = y-asked c.args.point c.requires

pub millimetres-requires-in-RollFeeder : goal.millimetres-requires-in-RollFeeder
millimetres-requires-in-RollFeeder c = y-asked c.args.point c.requires

pub overflow_sub-point : goal.overflow_sub-point
overflow_sub-point c = rw (negated_is c.args.point c.requires) (negated_fits c.args.point.x (x-limit c.args.point c.requires))

pub millimetres-requires-in-RollFeeder-2 : goal.millimetres-requires-in-RollFeeder-2
millimetres-requires-in-RollFeeder-2 c = rw (negated-back c.args.point c.requires) (negated-limit c.args.point.x (x-limit c.args.point c.requires))

-- the flatbed
pub returns-in-Flatbed : goal.returns-in-Flatbed
unfolding place_for
returns-in-Flatbed c = rw c.in-Flatbed.is (λ i. record {
  first = (c.millimetres.ensures ∙ ap millimetres_of (x-back c.args.point c.requires)) i;
  second = (c.millimetres-in-Flatbed.ensures ∙ ap millimetres_of (y-back c.args.point c.requires)) i;
})

-- the roll feeder
pub returns-in-RollFeeder : goal.returns-in-RollFeeder
unfolding place_for
returns-in-RollFeeder c = rw c.in-RollFeeder.is (λ i. record {
  first = (c.millimetres-in-RollFeeder.ensures ∙ ap millimetres_of (y-back c.args.point c.requires)) i;
  second = (c.millimetres-in-RollFeeder-2.ensures ∙ ap millimetres_of (negated-back c.args.point c.requires)) i;
})
