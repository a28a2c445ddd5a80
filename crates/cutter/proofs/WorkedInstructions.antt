-- Calls for instructions of 01's triangle and of two outlines, worked by the definition: one table, each call with its answer, and one test that is computed over all of it. Where
-- a call has two faults the table says which is answered.
use Rattle.std.specs.Prelude.{Ok, Err}
use Prim.Native.Nat.{ℕ}
use mathlib.Core.Path.{◌≡◌, refl}
use mathlib.Core.Bool.{Bool, true, false, ◌&&◌}
use mathlib.Core.List.{List, [], ◌∷◌, map}
use lib.Dec.{eqb}
use lib.IntN.{pos}
use lib.Ieee.{binary32, round, to_bits}
use Rattle.laws.specs.Counting as counting
use Rattle.sheet.specs.Points as points
use Rattle.sheet.specs.Edges as edges
use Rattle.sheet.specs.Answers as answers
use Rattle.sheet.specs.TurnList as turn_lists
use Rattle.sheet.proofs.Drawn.{triangle}
use Rattle.checks.specs.Stages as stages
use Rattle.singles.specs.Singles as singles
use Rattle.cutter.specs.declared.machines.Machine.{Machine}
use Rattle.cutter.specs.declared.machines.Machine.TheVariants.{Flatbed, RollFeeder}
use Rattle.cutter.specs.declared.blade.Instruction.TheVariants.{Travel, Cut, Lift}
use Rattle.cutter.specs.Instructed.{Step}
use Rattle.cutter.specs.Places as places
use Rattle.cutter.specs.Programme as programmes
use Rattle.cutter.specs.Outlines as outlines
use Rattle.cutter.specs.Instructed as instructions
use Rattle.cutter.specs.Instructed.{cut_number_of, cut_place_of, instructed}

-- 0, 1, 2 for travel, cut and lift, with the bits of the two floats; a refusal as its number and place behind a 3
told : Step → List ℕ
told (Ok (Travel p)) = 0 ∷ to_bits binary32 p.first ∷ to_bits binary32 p.second ∷ []
told (Ok (Cut p)) = 1 ∷ to_bits binary32 p.first ∷ to_bits binary32 p.second ∷ []
told (Ok Lift) = 2 ∷ []
told (Err r) = 3 ∷ cut_number_of r ∷ cut_place_of r ∷ []

same : List ℕ → List ℕ → Bool
same [] [] = true
same [] (y ∷ ys) = false
same (x ∷ xs) [] = false
same (x ∷ xs) (y ∷ ys) = eqb x y && same xs ys

record Expected : Type 0 where
  machine : Machine
  list : List ℕ
  polygons : List ℕ
  sequences : List ℕ
  turns : List ℕ
  right : List ℕ
  k : ℕ
  answer : List ℕ

-- the turn list of the triangle's numbers
in_turn : List ℕ
in_turn = 2 ∷ 0 ∷ 1 ∷ []

-- two outlines of two edges each
two_outlines : List ℕ
two_outlines = 0 ∷ 0 ∷ 1 ∷ 1 ∷ 0 ∷ 1 ∷ 1 ∷ 0 ∷ 0 ∷ 0 ∷ 5 ∷ 0 ∷ 6 ∷ 1 ∷ 3 ∷ 6 ∷ 1 ∷ 5 ∷ 0 ∷ 3 ∷ []

all_right : List Expected → Bool
all_right [] = true
all_right (w ∷ rest) = same (told (instructed w.machine (map pos w.list) w.polygons w.sequences w.turns w.right w.k)) w.answer && all_right rest

-- the k-th instruction of the triangle
kth-of : Machine → ℕ → List ℕ → Expected
kth-of m k answer = record { machine = m; list = triangle; polygons = 1 ∷ 1 ∷ 1 ∷ []; sequences = 1 ∷ 2 ∷ 0 ∷ []; turns = in_turn; right = in_turn; k = k; answer = answer }

-- the k-th of the two outlines
kth-of-two : ℕ → List ℕ → Expected
kth-of-two k answer =
    record { machine = Flatbed; list = two_outlines; polygons = 1 ∷ 1 ∷ 2 ∷ 2 ∷ []; sequences = 0 ∷ 1 ∷ 0 ∷ 1 ∷ []; turns = 0 ∷ 1 ∷ 2 ∷ 3 ∷ []; right = 0 ∷ 1 ∷ 2 ∷ 3 ∷ []; k = k; answer = answer }

-- other lists, asked for their first instruction
first_of : List ℕ → List ℕ → List ℕ → List ℕ → List ℕ → Expected
first_of list polygons sequences turns answer = record { machine = Flatbed; list = list; polygons = polygons; sequences = sequences; turns = turns; right = in_turn; k = 0; answer = answer }

refusal : ℕ → ℕ → List ℕ
refusal number place = 3 ∷ number ∷ place ∷ []

calls : List Expected
calls =
    kth-of Flatbed 0 (0 ∷ 0x3c80_0000 ∷ 0x3da0_0000 ∷ [])
    ∷ kth-of Flatbed 1 (1 ∷ 0 ∷ 0 ∷ [])
    ∷ kth-of Flatbed 2 (1 ∷ 0x3d80_0000 ∷ 0x3d00_0000 ∷ [])
    ∷ kth-of Flatbed 3 (1 ∷ 0x3c80_0000 ∷ 0x3da0_0000 ∷ [])
    ∷ kth-of Flatbed 4 (2 ∷ [])
    ∷ kth-of Flatbed 5 (refusal 18 0)
    ∷ kth-of RollFeeder 1 (1 ∷ 0 ∷ 0 ∷ [])
    ∷ kth-of RollFeeder 2 (1 ∷ 0x3d00_0000 ∷ 0xbd80_0000 ∷ [])
    ∷ kth-of RollFeeder 5 (refusal 18 0)
    ∷ kth-of-two 2 (1 ∷ 0 ∷ 0 ∷ [])
    ∷ kth-of-two 3 (2 ∷ [])
    ∷ kth-of-two 4 (0 ∷ 0x3da0_0000 ∷ 0 ∷ [])
    ∷ kth-of-two 5 (1 ∷ 0x3dc0_0000 ∷ 0x3c80_0000 ∷ [])
    ∷ kth-of-two 7 (2 ∷ [])
    ∷ kth-of-two 8 (refusal 18 0)
    ∷ first_of [] [] [] [] (refusal 18 0)
    ∷ first_of (0 ∷ 0 ∷ []) [] [] [] (refusal 1 0)
    ∷ first_of (0 ∷ 0 ∷ 1000001 ∷ 2 ∷ 999 ∷ []) [] [] [] (refusal 5 0)
    ∷ first_of (0 ∷ 0 ∷ 0 ∷ 0 ∷ 256 ∷ []) [] [] [] (refusal 16 0)
    ∷ first_of (0 ∷ 0 ∷ 1 ∷ 1 ∷ 0 ∷ 2 ∷ 2 ∷ 2 ∷ 2 ∷ 0 ∷ []) [] [] [] (refusal 6 1)
    ∷ first_of triangle (1 ∷ 1 ∷ 1 ∷ []) (1 ∷ 2 ∷ 0 ∷ []) (2 ∷ 0 ∷ []) (refusal 11 0)
    ∷ first_of triangle (1 ∷ 1 ∷ []) (1 ∷ 0 ∷ []) (1 ∷ 0 ∷ []) (refusal 11 0)
    ∷ first_of triangle (1 ∷ 0 ∷ 1 ∷ []) (1 ∷ 2 ∷ 0 ∷ []) (1 ∷ 0 ∷ 2 ∷ []) (refusal 12 1)
    ∷ first_of triangle (1 ∷ 1 ∷ 1 ∷ []) (1 ∷ 1 ∷ 0 ∷ []) in_turn (refusal 13 1)
    ∷ first_of triangle (1 ∷ 3 ∷ 1 ∷ []) (1 ∷ 0 ∷ 0 ∷ []) in_turn (refusal 14 1)
    ∷ first_of triangle (1 ∷ 1 ∷ 1 ∷ []) (1 ∷ 2 ∷ 0 ∷ []) (2 ∷ 1 ∷ 0 ∷ []) (refusal 24 1)
    ∷ first_of triangle (1 ∷ 1 ∷ 1 ∷ []) (1 ∷ 2 ∷ 0 ∷ []) (7 ∷ 0 ∷ 1 ∷ []) (refusal 24 0)
    ∷ first_of (0 ∷ 0 ∷ 4 ∷ 2 ∷ 0 ∷ 4 ∷ 2 ∷ 1 ∷ 6 ∷ 0 ∷ 1 ∷ 5 ∷ 0 ∷ 0 ∷ 0 ∷ []) (1 ∷ 1 ∷ 1 ∷ []) (1 ∷ 2 ∷ 0 ∷ []) in_turn (refusal 25 1)
    ∷ first_of (0 ∷ 0 ∷ 4 ∷ 2 ∷ 0 ∷ 4 ∷ 2 ∷ 1 ∷ 6 ∷ 0 ∷ 1 ∷ 5 ∷ 0 ∷ 0 ∷ 0 ∷ []) (1 ∷ 1 ∷ 1 ∷ []) (1 ∷ 2 ∷ 0 ∷ []) (2 ∷ 1 ∷ 0 ∷ []) (refusal 24 1)
    ∷ []

worked : all_right calls ≡ true
unfolding told same in_turn two_outlines all_right kth-of kth-of-two first_of refusal calls instructed instructions.turned_step instructions.joined_step instructions.not_as_long instructions.turn_differs instructions.kth outlines.heads_on outlines.outlines_of outlines.next_at outlines.head_not_tail programmes.cuts programmes.programme places.place_for places.millimetres_of singles.single round to_bits stages.list_checked stages.edges_alone_checked answers.past_range answers.film_past_range answers.equal_ends points.same_z points.is_same points.within points.in_range points.is_film edges.edge_at edges.edges_in turn_lists.number_lists turn_lists.no_polygon turn_lists.pair_repeated turn_lists.gap turn_lists.lengths_differ turn_lists.turned counting.some_below counting.first counting.first_from counting.largest
worked = refl
