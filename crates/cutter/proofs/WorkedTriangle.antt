-- A triangle worked on both machines, to the bit: its instructions are the numbers written here, and from them the triangle is read back.
use mathlib.Core.Path.{◌≡◌, refl}
use mathlib.Core.List.{List, [], ◌∷◌}
use Prim.Native.Nat.{ℕ}
use lib.IntN.{pos}
use lib.Ieee.{binary32, round, of_bits}
use Rattle.sheet.specs.declared.Point.{Point}
use Rattle.singles.specs.Singles.{single, read}
use Rattle.cutter.specs.declared.machines.Machine.TheVariants.{Flatbed, RollFeeder}
use Rattle.cutter.specs.declared.machines.Place.{Place}
use Rattle.cutter.specs.declared.blade.Instruction.{Instruction}
use Rattle.cutter.specs.declared.blade.Instruction.TheVariants.{Travel, Cut, Lift}
use Rattle.cutter.specs.Places.{millimetres_of, place_for, point_at}
use Rattle.cutter.specs.Programme.{Outline, cuts, programme, heads_read, outlines_read}

point : ℕ → ℕ → Point
point x y = record { x = pos x; y = pos y }

triangle : List Outline
triangle = record { start = point 0 0; heads = point 4 2 ∷ point 1 5 ∷ point 0 0 ∷ [] } ∷ []

-- by the two floats' bits
place : ℕ → ℕ → Place
place a b = record { first = of_bits binary32 a; second = of_bits binary32 b }

travel : ℕ → ℕ → Instruction
travel a b = Travel (place a b)

cut : ℕ → ℕ → Instruction
cut a b = Cut (place a b)

flatbed : List Instruction
flatbed =
    travel 0 0
    ∷ cut 0x3d80_0000 0x3d00_0000
    ∷ cut 0x3c80_0000 0x3da0_0000
    ∷ cut 0 0
    ∷ Lift
    ∷ []

-- y comes first, and x negated second; a zero stays plus zero
roll_feeder : List Instruction
roll_feeder =
    travel 0 0
    ∷ cut 0x3d00_0000 0xbd80_0000
    ∷ cut 0x3da0_0000 0xbc80_0000
    ∷ cut 0 0
    ∷ Lift
    ∷ []

record Worked : Type 0 where
  flatbed_is : programme (place_for Flatbed) triangle ≡ flatbed
  flatbed_back : outlines_read (point_at Flatbed) flatbed ≡ triangle
  roll_feeder_is : programme (place_for RollFeeder) triangle ≡ roll_feeder
  roll_feeder_back : outlines_read (point_at RollFeeder) roll_feeder ≡ triangle

worked : Worked
unfolding point triangle place travel cut flatbed roll_feeder cuts programme heads_read outlines_read place_for point_at millimetres_of single round read of_bits
worked = record { flatbed_is = refl; flatbed_back = refl; roll_feeder_is = refl; roll_feeder_back = refl }
