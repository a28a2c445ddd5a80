-- The outlines are read back from their instructions, on any machine from whose places the points are read back. A travel gives its outline's start and the
-- cuts behind it the heads; the lift ends them, and the reading goes on to the next travel past the cuts.
use mathlib.Core.Path.{◌≡◌, refl}
use mathlib.Core.Bool.{true}
use mathlib.Core.List.{List, [], ◌∷◌}
use Rattle.sheet.specs.declared.Point.{Point}
use Rattle.sheet.specs.Points.{in_range}
use Rattle.cutter.specs.declared.machines.Place.{Place}
use Rattle.cutter.specs.declared.blade.Instruction.{Instruction}
use Rattle.cutter.specs.declared.blade.Instruction.TheVariants.{Lift}
use Rattle.cutter.specs.Programme.{Outline, cuts, programme, heads_read, outlines_read}
use Rattle.cutter.proofs.Drawings.{AllInRange, Drawn}

module _ (place : Point → Place) (point : Place → Point) where
  past-cuts : (ps : List Point) (rest : List Instruction) → outlines_read point (cuts place ps rest) ≡ outlines_read point rest
  unfolding cuts outlines_read
  past-cuts [] rest = refl
  past-cuts (p ∷ ps) rest = past-cuts ps rest

  module _ (undone : (p : Point) → in_range p ≡ true → point (place p) ≡ p) where
    heads-back : (ps : List Point) (rest : List Instruction) → AllInRange ps → heads_read point (cuts place ps (Lift ∷ rest)) ≡ ps
    unfolding cuts heads_read
    heads-back [] rest h = refl
    heads-back (p ∷ ps) rest h = rw (undone p h.0, heads-back ps rest h.1)

    pub outlines-back : (os : List Outline) → Drawn os → outlines_read point (programme place os) ≡ os
    unfolding programme outlines_read
    outlines-back [] h = refl
    outlines-back (o ∷ os) h =
        rw (undone o.start h.0, heads-back o.heads (programme place os) h.1, past-cuts o.heads (Lift ∷ programme place os), outlines-back os h.2)
