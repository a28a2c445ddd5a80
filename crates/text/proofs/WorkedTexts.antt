-- Texts worked by the reading's own definition: one table of texts, each with the number and the place that 01 gives it, and one test that is computed
-- over all of it. Each answer of a reading is there, and a line for each rule that can be broken. Then lines whose films are read as they stand, also those
-- that no sheet may have. The bytes are written as numbers: 48 is "0", 32 a
-- space, 10 a newline, 45 a minus.
use Prim.Native.Nat.{ℕ}
use mathlib.Core.Path.{◌≡◌, refl}
use mathlib.Core.Bool.{Bool, true, ◌&&◌}
use mathlib.Core.List.{List, [], ◌∷◌, ◌++◌}
use lib.Dec.{eqb}
use lib.IntN.{ℤ, pos, negsuc}
use lib.ListN.{length, replicate}
use Rattle.text.specs.Said.{read}
use Rattle.text.specs.Lines.{edge_of, line_at}
use Rattle.text.specs.Texts.{reading_of, reading_number, reading_place}
use Rattle.text.proofs.Computing.{texts_computed}

-- a text, and 01's number and place for it; 0, 0 where it is read
record Expected : Type 0 where
  bytes : List ℕ
  number : ℕ
  place : ℕ

-- in the program's room
right : Expected → Bool
right w = eqb (reading_number (reading_of w.bytes 2560)) w.number && eqb (reading_place (reading_of w.bytes 2560)) w.place

all_right : List Expected → Bool
all_right [] = true
all_right (w ∷ rest) = right w && all_right rest

case : List ℕ → ℕ → ℕ → Expected
case bytes number place = record { bytes = bytes; number = number; place = place }

-- "0 0 4 2"
ends : List ℕ
ends = 48 ∷ 32 ∷ 48 ∷ 32 ∷ 52 ∷ 32 ∷ 50 ∷ []

-- an edge of that film, and a newline
on_film : List ℕ → List ℕ
on_film film = ends ++ ((32 ∷ film) ++ (10 ∷ []))

-- "0 0 4 2 7" and a newline
good : List ℕ
good = on_film (55 ∷ [])

-- " 0 0 0 0" and a newline: the rest of a line
rest : List ℕ
rest = 32 ∷ 48 ∷ 32 ∷ 48 ∷ 32 ∷ 48 ∷ 32 ∷ 48 ∷ 10 ∷ []

table : List Expected
table =
    case [] 0 0
    ∷ case (good ++ good) 0 0
    ∷ case (45 ∷ 49 ∷ rest) 0 0
    -- films past the range are for the engine to refuse
    ∷ case (good ++ (on_film (50 ∷ 53 ∷ 54 ∷ []) ++ on_film (45 ∷ 49 ∷ []))) 0 0
    -- a minus zero, a leading zero, eight digits, a letter, four numbers, six numbers, a space too many, no newline
    ∷ case (45 ∷ 48 ∷ rest) 15 1
    ∷ case (48 ∷ 49 ∷ rest) 15 1
    ∷ case (replicate 8 49 ++ rest) 15 1
    ∷ case (good ++ (120 ∷ rest)) 15 2
    ∷ case (good ++ (ends ++ (10 ∷ []))) 15 2
    ∷ case (good ++ (good ++ (48 ∷ 32 ∷ 48 ∷ rest))) 15 3
    ∷ case (good ++ (good ++ (48 ∷ 32 ∷ rest))) 15 3
    ∷ case (good ++ (48 ∷ [])) 15 2
    -- 513 lines, which are malformed too
    ∷ case (replicate 513 10) 2 0
    ∷ case (replicate 512 10) 15 1
    ∷ []

-- the line of that film is an edge with that number for its film
ReadOn : List ℕ → ℤ → Type 0
ReadOn film z = line_at (on_film film) 0 ≡ read (edge_of (pos 0) (pos 0) (pos 4) (pos 2) z) (length (on_film film))

worked : (all_right table ≡ true) × ReadOn (55 ∷ []) (pos 7) × ReadOn (replicate 7 57) (pos 9999999) × ReadOn (45 ∷ 49 ∷ []) (negsuc 0)
unfolding
    all_right
    right
    case
    ends
    on_film
    good
    rest
    table
    ReadOn
    texts_computed
worked = (refl, refl, refl, refl)
