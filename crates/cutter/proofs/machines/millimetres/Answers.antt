-- `millimetres` meets its contract: the whole number is exact as a float, and so is its quotient by 64.
use native.Mathlib.Omega.{arith}
use mir.Syntax.{w32}
use mir.ValLaws.{to_z-of_z}
use Rattle.cutter.proofs.Places.{by-quotient}
use Rattle.cutter.proofs.machines.millimetres.Goals as goal

pub whole-requires : goal.whole-requires
whole-requires c = rw (to_z-of_z w32 c.args.v c.ranges.v) (omega (arith, c.requires))

pub returns : goal.returns
returns c = rw (c.whole.ensures.nearest, to_z-of_z w32 c.args.v c.ranges.v) (by-quotient c.args.v c.requires)
