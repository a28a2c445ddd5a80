-- The whole list of instructions for outlines, and the outlines read back from instructions alone (02, M-102). A machine enters only as a way from a
-- point to a place, and back.
use Rattle.std.specs.Prelude.{◌≡◌, true, List, [], ◌∷◌, ◌++◌, ◌+◌, length}
use Rattle.sheet.specs.declared.Point.{Point}
use Rattle.cutter.specs.declared.machines.Place.{Place}
use Rattle.cutter.specs.declared.blade.Head.{Head}
use Rattle.cutter.specs.declared.blade.Instruction.{Instruction}
use Rattle.cutter.specs.declared.blade.Instruction.TheVariants.{Travel, Cut, Lift}
use Rattle.cutter.specs.Blade.{travel_to, cut_to, ran, raised_at}

-- an outline as points: the tail of its edge 0, and the heads of its edges 0, 1, 2 and so on
pub record Outline : Type 0 where
  pub start : Point
  pub heads : List Point

-- a cut to each head, and what follows
unfoldable pub cuts : (Point → Place) → List Point → List Instruction → List Instruction
cuts place [] rest = rest
cuts place (p ∷ ps) rest = cut_to (place p) ∷ cuts place ps rest

-- travel to the tail of edge 0, a cut to each head, lift, the next outline
unfoldable pub programme : (Point → Place) → List Outline → List Instruction
programme place [] = []
programme place (o ∷ os) = travel_to (place o.start) ∷ cuts place o.heads (Lift ∷ programme place os)

-- ---- and back: the points cut to before anything else comes
unfoldable pub heads_read : (Place → Point) → List Instruction → List Point
heads_read point [] = []
heads_read point (Travel p ∷ is) = []
heads_read point (Cut p ∷ is) = point p ∷ heads_read point is
heads_read point (Lift ∷ is) = []

-- each travel begins an outline
unfoldable pub outlines_read : (Place → Point) → List Instruction → List Outline
outlines_read point [] = []
outlines_read point (Travel p ∷ is) = record { start = point p; heads = heads_read point is } ∷ outlines_read point is
outlines_read point (Cut p ∷ is) = outlines_read point is
outlines_read point (Lift ∷ is) = outlines_read point is

-- an edge as the blade cuts it
pub record Stroke : Type 0 where
  pub tail : Point
  pub head : Point

-- each cut leads on from where the head stands, which is a travel's place or the cut's before
unfoldable pub strokes_read : (Place → Point) → Point → List Instruction → List Stroke
strokes_read point here [] = []
strokes_read point here (Travel p ∷ is) = strokes_read point (point p) is
strokes_read point here (Cut p ∷ is) = record { tail = here; head = point p } ∷ strokes_read point (point p) is
strokes_read point here (Lift ∷ is) = strokes_read point here is

-- ---- one outline after another: a travel, a cut or more, a lift
pub data Phase : Type 0 where
  resting : Phase
  travelled : Phase
  cutting : Phase

abbrev pub Orderly : Phase → List Instruction → Type 0
Orderly resting [] = Unit
Orderly resting (Travel p ∷ is) = Orderly travelled is
Orderly resting (Cut p ∷ is) = ⊥
Orderly resting (Lift ∷ is) = ⊥
Orderly travelled [] = ⊥
Orderly travelled (Travel p ∷ is) = ⊥
Orderly travelled (Cut p ∷ is) = Orderly cutting is
Orderly travelled (Lift ∷ is) = ⊥
Orderly cutting [] = ⊥
Orderly cutting (Travel p ∷ is) = ⊥
Orderly cutting (Cut p ∷ is) = Orderly cutting is
Orderly cutting (Lift ∷ is) = Orderly resting is

-- what the list is for those who cut by it
pub record Cuttable (place : Point → Place) (point : Place → Point) (os : List Outline) : Type 0 where
  -- from the instructions alone the outlines come back, point by point and in their order
  pub read_back : outlines_read point (programme place os) ≡ os
  -- an outline of n edges makes n + 2
  pub size : (o : Outline) → length (programme place (o ∷ [])) ≡ length o.heads + 2
  -- no cut without a travel before it, and from there to the lift nothing but cuts ..
  pub orderly : Orderly resting (programme place os)
  -- .. each of which leaves the blade down
  pub down : (done rest : List Instruction) (p : Place) → programme place os ≡ done ++ (Cut p ∷ rest) → (h : Head) → (ran h (done ++ (Cut p ∷ []))).down ≡ true
  -- after each outline the head stands where it came down, blade up
  pub apart : (before after : List Outline) → os ≡ before ++ after → programme place os ≡ programme place before ++ programme place after
  pub stands : (before after : List Outline) (o : Outline) → os ≡ before ++ (o ∷ after) → (h : Head) → ran h (programme place (before ++ (o ∷ []))) ≡ raised_at (place o.start)
