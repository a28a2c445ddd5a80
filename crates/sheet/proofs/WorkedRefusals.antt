-- The refusals 1 to 9, 16 and 17 worked by the checks' own definition: one table of calls, each with the number and the place that the answer sheet gives it, and
-- one test that is computed over all of it. Where a call has two faults the table says which is answered. 10 is worked with the sweeps, in numbering.
-- A list of 4,097 edges is said and not written out: it is refused whatever else is lent, and 4,096 such edges get as far as their first fault.
use Rattle.std.specs.Prelude.{Result, ⊤, Ok, Err}
use Prim.Native.Nat.{ℕ, ◌*◌, ◌/◌}
use mathlib.Core.Path.{◌≡◌, refl}
use mathlib.Core.Bool.{Bool, true, ◌&&◌}
use mathlib.Core.List.{List, [], ◌∷◌, map}
use lib.Dec.{eqb}
use lib.IntN.{ℤ, pos, negsuc}
use lib.ListN.{length, replicate, take}
use Rattle.sheet.specs.Answers.{Call, number_of, place_of, checked}
use Rattle.sheet.specs.Amounts.{numbers_per_edge}
use Rattle.sheet.proofs.Drawn.{triangle, two_edges, shared_side, side_twice, two_pixels, crossing, one_way}
use Rattle.sheet.specs.declared.Refusal.{Refusal}
use Rattle.sheet.proofs.Computing.{sheets_computed}

-- a call, and the answer sheet's number and place for it; 0, 0 where it passes
record Expected : Type 0 where
  call : Call
  number : ℕ
  place : ℕ

answers_with : Result ⊤ Refusal → ℕ → ℕ → Bool
answers_with (Ok _) number place = eqb number 0 && eqb place 0
answers_with (Err r) number place = eqb (number_of r) number && eqb (place_of r) place

all_right : List Expected → Bool
all_right [] = true
all_right (w ∷ rest) = answers_with (checked w.call) w.number w.place && all_right rest

-- a list with lists and a journal of these lengths
lent : List ℤ → ℕ → ℕ → ℕ → ℕ → Call
lent list polygons sequences turns journal = record { list = list; polygons = polygons; sequences = sequences; turns = turns; journal = journal }

-- a list with what it needs: a number an edge, and a journal of 8 an edge
fitted : List ℤ → Call
fitted list = lent list (length list / numbers_per_edge) (length list / numbers_per_edge) (length list / numbers_per_edge) (8 * (length list / numbers_per_edge))

case : Call → ℕ → ℕ → Expected
case call number place = record { call = call; number = number; place = place }

calls : List Expected
calls =
    case (fitted (map pos triangle)) 0 0
    ∷ case (lent (map pos (0 ∷ 0 ∷ 4 ∷ [])) 7 7 7 0) 1 0
    ∷ case (lent (map pos triangle) 2 3 3 24) 3 0
    ∷ case (lent (map pos triangle) 3 4 3 24) 3 0
    ∷ case (lent (map pos triangle) 3 3 2 24) 3 0
    ∷ case (lent (map pos triangle) 3 3 4 24) 3 0
    ∷ case (lent (map pos triangle) 3 3 4 0) 3 0
    ∷ case (lent (map pos triangle) 3 3 3 23) 4 0
    ∷ case (fitted (map pos (0 ∷ 0 ∷ 4 ∷ 2 ∷ 0 ∷ 4 ∷ 2 ∷ 1 ∷ 1000001 ∷ 0 ∷ 1 ∷ 1000001 ∷ 0 ∷ 0 ∷ 0 ∷ []))) 5 1
    ∷ case (fitted (map pos (5 ∷ 5 ∷ 5 ∷ 5 ∷ 0 ∷ []))) 6 0
    ∷ case (fitted (map pos (4 ∷ 2 ∷ 1 ∷ 5 ∷ 0 ∷ 0 ∷ 0 ∷ 4 ∷ 2 ∷ 0 ∷ 1 ∷ 5 ∷ 0 ∷ 0 ∷ 0 ∷ []))) 7 1
    ∷ case (fitted (map pos (0 ∷ 0 ∷ 4 ∷ 2 ∷ 0 ∷ triangle))) 8 1
    ∷ case (fitted (map pos (0 ∷ 0 ∷ 4 ∷ 2 ∷ 0 ∷ 4 ∷ 2 ∷ 1 ∷ 5 ∷ 0 ∷ []))) 9 0
    -- the ends of the range, and one past each
    ∷ case (fitted (negsuc 999999 ∷ negsuc 999999 ∷ pos 1000000 ∷ pos 1000000 ∷ pos 0 ∷ pos 1000000 ∷ pos 1000000 ∷ negsuc 999999 ∷ negsuc 999999 ∷ pos 0 ∷ [])) 0 0
    ∷ case (fitted (negsuc 1000000 ∷ pos 0 ∷ pos 1 ∷ pos 1 ∷ pos 0 ∷ pos 1 ∷ pos 1 ∷ negsuc 1000000 ∷ pos 0 ∷ pos 0 ∷ [])) 5 0
    -- 5 and 6 in one edge, 5 and 7, 6 and 7; 7 in an edge before one with 5; 6 in an edge after one with 8
    ∷ case (fitted (map pos (1000001 ∷ 5 ∷ 1000001 ∷ 5 ∷ 0 ∷ []))) 5 0
    ∷ case (fitted (map pos (4 ∷ 2 ∷ 1 ∷ 5 ∷ 0 ∷ 0 ∷ 0 ∷ 1000001 ∷ 2 ∷ 0 ∷ []))) 5 1
    ∷ case (fitted (map pos (4 ∷ 2 ∷ 1 ∷ 5 ∷ 0 ∷ 2 ∷ 2 ∷ 2 ∷ 2 ∷ 0 ∷ []))) 6 1
    ∷ case (fitted (map pos (4 ∷ 2 ∷ 1 ∷ 5 ∷ 0 ∷ 0 ∷ 0 ∷ 4 ∷ 2 ∷ 0 ∷ 1 ∷ 1000001 ∷ 0 ∷ 0 ∷ 0 ∷ []))) 7 1
    ∷ case (fitted (map pos (0 ∷ 0 ∷ 4 ∷ 2 ∷ 0 ∷ 0 ∷ 0 ∷ 4 ∷ 2 ∷ 0 ∷ 5 ∷ 5 ∷ 5 ∷ 5 ∷ 0 ∷ []))) 6 2
    -- a film below the range and past it, the largest and the smallest number of 32 bits; the last film is accepted
    ∷ case (fitted (pos 0 ∷ pos 0 ∷ pos 1 ∷ pos 1 ∷ pos 0 ∷ pos 1 ∷ pos 1 ∷ pos 0 ∷ pos 0 ∷ negsuc 0 ∷ [])) 16 1
    ∷ case (fitted (map pos (0 ∷ 0 ∷ 1 ∷ 1 ∷ 256 ∷ []))) 16 0
    ∷ case (fitted (map pos (0 ∷ 0 ∷ 1 ∷ 1 ∷ 2147483647 ∷ []))) 16 0
    ∷ case (fitted (pos 0 ∷ pos 0 ∷ pos 1 ∷ pos 1 ∷ negsuc 2147483647 ∷ [])) 16 0
    ∷ case (fitted (map pos (0 ∷ 0 ∷ 1 ∷ 1 ∷ 255 ∷ 1 ∷ 1 ∷ 0 ∷ 0 ∷ 255 ∷ []))) 0 0
    -- 5 and 16 in one edge, 16 and 6, 16 and 7
    ∷ case (fitted (map pos (1000001 ∷ 5 ∷ 1 ∷ 5 ∷ 256 ∷ []))) 5 0
    ∷ case (fitted (map pos (5 ∷ 5 ∷ 5 ∷ 5 ∷ 256 ∷ []))) 16 0
    ∷ case (fitted (map pos (4 ∷ 2 ∷ 1 ∷ 5 ∷ 0 ∷ 0 ∷ 0 ∷ 4 ∷ 2 ∷ 256 ∷ []))) 16 1
    -- a side that two films share, and that one film has twice; an edge that arrives where only another film leaves; 7 whatever the films
    ∷ case (fitted (map pos shared_side)) 0 0
    ∷ case (fitted (map pos side_twice)) 8 3
    ∷ case (fitted (map pos (0 ∷ 0 ∷ 1 ∷ 1 ∷ 0 ∷ 1 ∷ 1 ∷ 0 ∷ 0 ∷ 1 ∷ []))) 9 0
    ∷ case (fitted (map pos (4 ∷ 2 ∷ 1 ∷ 5 ∷ 0 ∷ 0 ∷ 0 ∷ 4 ∷ 2 ∷ 1 ∷ []))) 7 1
    -- four edges of one film at a point: pixels that touch, edges that do not alternate, two in one direction over different lengths and over one
    ∷ case (fitted (map pos two_pixels)) 0 0
    ∷ case (fitted (map pos (crossing 0))) 17 1
    ∷ case (fitted (map pos one_way)) 17 1
    ∷ case (fitted (map pos (0 ∷ 0 ∷ 1 ∷ 0 ∷ 0 ∷ 1 ∷ 0 ∷ 0 ∷ 0 ∷ 0 ∷ 1 ∷ 0 ∷ 0 ∷ 1 ∷ 0 ∷ 0 ∷ 1 ∷ 1 ∷ 0 ∷ 0 ∷ []))) 17 0
    -- .. and of two films; 9 and 17 in one list; two edges in one direction, there and back, with no others
    ∷ case (fitted (map pos (crossing 1))) 0 0
    ∷ case (fitted (take 25 (map pos (crossing 0)))) 9 3
    ∷ case (fitted (map pos two_edges)) 0 0
    -- 4,096 edges pass check 2
    ∷ case (fitted (replicate (numbers_per_edge * 4096) (pos 0))) 6 0
    ∷ []

record AllWorked : Type 0 where
  right_all : all_right calls ≡ true
  too_many_lem : (polygons sequences turns journal : ℕ) → answers_with (checked (lent (replicate (numbers_per_edge * 4097) (pos 0)) polygons sequences turns journal)) 2 0 ≡ true

all-worked : AllWorked
unfolding
    all_right
    answers_with
    lent
    fitted
    case
    calls
    sheets_computed
all-worked = record { right_all = refl; too_many_lem = λ polygons sequences turns journal. refl }
