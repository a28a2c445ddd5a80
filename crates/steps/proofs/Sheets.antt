-- Sheets of document 01, of several films and with corners apart worked by the steps, with the peaks that M-103 gives them: one table, one test that is
-- computed over all of it.
use Rattle.std.specs.Prelude.{Result, ⊤, Ok, Err}
use Prim.Native.Nat.{ℕ, suc, ◌/◌}
use mathlib.Core.Path.{◌≡◌, refl}
use mathlib.Core.Bool.{Bool, true, false, ◌&&◌}
use mathlib.Core.List.{List, [], ◌∷◌, map}
use lib.Dec.{eqb}
use lib.IntN.{pos, nat_abs}
use lib.ListN.{length}
use Rattle.sheet.specs.Edges.{drawing_of}
use Rattle.sheet.proofs.Drawn.{triangle, two_edges, square, two_peaks, touching, shared_side, one_top, one_top_around, touching_films, two_pixels, crossing}
use Rattle.steps.specs.Rows.{Row, Record, in_row}
use Rattle.steps.specs.SweepUp.{State, Sweep}
use Rattle.steps.specs.SweepDown.{Pair, Reading}
use Rattle.steps.specs.Swept.{swept_to, read_down}
use Rattle.sheet.specs.Amounts.{numbers_per_edge}
use Rattle.steps.specs.declared.Halt.{Halt}
use Rattle.steps.specs.declared.Halt.TheVariants.{NoFreeRow, Overrun}
use Rattle.steps.proofs.Computing.{steps_computed}

-- a sheet with the rows lent, and what 01 says of it: how it ends and at which edge, polygons, peak, records, the pairs in list order
record Worked : Type 0 where
  list : List ℕ
  rows : ℕ
  end : Result ⊤ Halt
  edge : ℕ
  polygons : ℕ
  peak : ℕ
  records : ℕ
  pairs : List ℕ

abbrev read_of : State (ℕ → Row ℕ) (ℕ → Record) → Reading (ℕ → Pair) (ℕ → Pair)
read_of s = read_down s.journal s.records

abbrev same_end : Result ⊤ Halt → Result ⊤ Halt → Bool
same_end (Ok _) (Ok _) = true
same_end (Err NoFreeRow) (Err NoFreeRow) = true
same_end (Err Overrun) (Err Overrun) = true
same_end (Ok _) (Err _) = false
same_end (Err NoFreeRow) (Ok _) = false
same_end (Err NoFreeRow) (Err Overrun) = false
same_end (Err Overrun) (Ok _) = false
same_end (Err Overrun) (Err NoFreeRow) = false

-- the pairs of the edges from i on, of n
abbrev same_pairs : (ℕ → Pair) → ℕ → ℕ → List ℕ → Bool
same_pairs answers n i [] = eqb i n
same_pairs answers n i (p ∷ []) = false
same_pairs answers n i (p ∷ s ∷ rest) = eqb (answers i).polygon p && (eqb (nat_abs (answers i).sequence) s && same_pairs answers n (suc i) rest)

-- a sheet that ends early is compared up to there
abbrev right_numbers : Result ⊤ Halt → State (ℕ → Row ℕ) (ℕ → Record) → Worked → Bool
right_numbers (Ok _) s w =
    eqb (read_of s).polygons w.polygons && (eqb s.peak w.peak && (eqb s.records w.records && same_pairs (read_of s).answers (length w.list / numbers_per_edge) 0 w.pairs))
right_numbers (Err _) s w = true

right : Worked → Bool
right w = both (swept_to (drawing_of (map pos w.list)) w.rows (length w.list / numbers_per_edge))
  where
    both : Sweep (ℕ → Row ℕ) (ℕ → Record) → Bool
    both s = same_end s.state.end w.end && (eqb s.edge w.edge && right_numbers s.state.end s.state w)

all_right : List Worked → Bool
all_right [] = true
all_right (w ∷ rest) = right w && all_right rest

accepted : List ℕ → ℕ → ℕ → ℕ → ℕ → ℕ → List ℕ → Worked
accepted list rows edge polygons peak records pairs =
    record { list = list; rows = rows; end = Ok tt; edge = edge; polygons = polygons; peak = peak; records = records; pairs = pairs }

sheets : List Worked
sheets =
    accepted [] 0 0 0 0 0 []
    ∷ accepted triangle 1 2 1 1 4 (1 ∷ 1 ∷ 1 ∷ 2 ∷ 1 ∷ 0 ∷ [])
    ∷ accepted two_edges 1 1 1 1 3 (1 ∷ 1 ∷ 1 ∷ 0 ∷ [])
    ∷ accepted square 1 3 1 1 5 (1 ∷ 2 ∷ 1 ∷ 1 ∷ 1 ∷ 3 ∷ 1 ∷ 0 ∷ [])
    ∷ accepted two_peaks 2 3 1 2 7 (1 ∷ 1 ∷ 1 ∷ 2 ∷ 1 ∷ 3 ∷ 1 ∷ 0 ∷ [])
    ∷ record { list = two_peaks; rows = 1; end = Err NoFreeRow; edge = 1; polygons = 0; peak = 0; records = 0; pairs = [] }
    ∷ accepted touching 3 6 2 3 11 (2 ∷ 1 ∷ 2 ∷ 2 ∷ 1 ∷ 1 ∷ 2 ∷ 3 ∷ 2 ∷ 0 ∷ 1 ∷ 2 ∷ 1 ∷ 0 ∷ [])
    ∷ accepted shared_side 2 7 2 2 10 (2 ∷ 2 ∷ 1 ∷ 2 ∷ 2 ∷ 1 ∷ 2 ∷ 3 ∷ 2 ∷ 0 ∷ 1 ∷ 1 ∷ 1 ∷ 3 ∷ 1 ∷ 0 ∷ [])
    ∷ accepted one_top 1 3 2 1 6 (2 ∷ 1 ∷ 2 ∷ 0 ∷ 1 ∷ 1 ∷ 1 ∷ 0 ∷ [])
    ∷ accepted one_top_around 2 3 2 2 6 (1 ∷ 1 ∷ 2 ∷ 1 ∷ 2 ∷ 0 ∷ 1 ∷ 0 ∷ [])
    ∷ accepted touching_films 3 6 2 3 11 (2 ∷ 1 ∷ 2 ∷ 2 ∷ 1 ∷ 1 ∷ 2 ∷ 3 ∷ 2 ∷ 0 ∷ 1 ∷ 2 ∷ 1 ∷ 0 ∷ [])
    -- M-104: two outlines of four edges, where 01 had one of eight; and where each film has two edges at a point, no corner
    ∷ accepted two_pixels 2 7 2 2 10 (2 ∷ 2 ∷ 1 ∷ 2 ∷ 2 ∷ 1 ∷ 2 ∷ 3 ∷ 2 ∷ 0 ∷ 1 ∷ 1 ∷ 1 ∷ 3 ∷ 1 ∷ 0 ∷ [])
    ∷ accepted (crossing 1) 2 5 2 1 8 (2 ∷ 1 ∷ 2 ∷ 2 ∷ 2 ∷ 0 ∷ 1 ∷ 1 ∷ 1 ∷ 0 ∷ 1 ∷ 2 ∷ [])
    ∷ []

-- all of them; and in the sheet of two peaks the fifth record puts row 1 into row 1, which was freed for it and opened again (M-103)
record Computed : Type 0 where
  all_right_lem : all_right sheets ≡ true
  opened_again : (swept_to (drawing_of (map pos two_peaks)) 2 4).state.journal 4 ≡ record { level = 1; name = 1; chain = in_row 1; offset = pos 1 }

all-sheets : Computed
unfolding
    all_right
    right
    accepted
    sheets
    steps_computed
all-sheets = record { all_right_lem = refl; opened_again = refl }
