-- Sheets as lists of numbers, five an edge, those of document 01 with film 0: the tables of worked sheets in other crates are about these.
use Prim.Native.Nat.{ℕ}
use mathlib.Core.List.{List, [], ◌∷◌}

-- 01 Sheets 2: one outline of three edges
abbrev pub triangle : List ℕ
triangle = 0 ∷ 0 ∷ 4 ∷ 2 ∷ 0 ∷ 4 ∷ 2 ∷ 1 ∷ 5 ∷ 0 ∷ 1 ∷ 5 ∷ 0 ∷ 0 ∷ 0 ∷ []

-- there and back
abbrev pub two_edges : List ℕ
two_edges = 0 ∷ 0 ∷ 1 ∷ 1 ∷ 0 ∷ 1 ∷ 1 ∷ 0 ∷ 0 ∷ 0 ∷ []

-- with sides of one height
abbrev pub square : List ℕ
square = 0 ∷ 0 ∷ 2 ∷ 0 ∷ 0 ∷ 0 ∷ 2 ∷ 0 ∷ 0 ∷ 0 ∷ 2 ∷ 0 ∷ 2 ∷ 2 ∷ 0 ∷ 2 ∷ 2 ∷ 0 ∷ 2 ∷ 0 ∷ []

abbrev pub two_peaks : List ℕ
two_peaks = 3 ∷ 2 ∷ 1 ∷ 6 ∷ 0 ∷ 1 ∷ 6 ∷ 3 ∷ 0 ∷ 0 ∷ 3 ∷ 0 ∷ 6 ∷ 8 ∷ 0 ∷ 6 ∷ 8 ∷ 3 ∷ 2 ∷ 0 ∷ []

-- two outlines that meet in (1,6)
abbrev pub touching : List ℕ
touching = 3 ∷ 2 ∷ 1 ∷ 6 ∷ 0 ∷ 1 ∷ 6 ∷ 3 ∷ 0 ∷ 0 ∷ 1 ∷ 6 ∷ 2 ∷ 7 ∷ 0 ∷ 3 ∷ 0 ∷ 6 ∷ 8 ∷ 0 ∷ 6 ∷ 8 ∷ 3 ∷ 2 ∷ 0 ∷ 2 ∷ 7 ∷ 0 ∷ 9 ∷ 0 ∷ 0 ∷ 9 ∷ 1 ∷ 6 ∷ 0 ∷ []

-- three outlines of two edges, each above the one before
abbrev pub three_pairs : List ℕ
three_pairs = 0 ∷ 0 ∷ 1 ∷ 1 ∷ 0 ∷ 1 ∷ 1 ∷ 0 ∷ 0 ∷ 0 ∷ 2 ∷ 2 ∷ 3 ∷ 3 ∷ 0 ∷ 3 ∷ 3 ∷ 2 ∷ 2 ∷ 0 ∷ 4 ∷ 4 ∷ 5 ∷ 5 ∷ 0 ∷ 5 ∷ 5 ∷ 4 ∷ 4 ∷ 0 ∷ []

-- two squares of films 0 and 1 that share the side x = 2
abbrev pub shared_side : List ℕ
shared_side = 0 ∷ 0 ∷ 2 ∷ 0 ∷ 0 ∷ 2 ∷ 0 ∷ 4 ∷ 0 ∷ 1 ∷ 0 ∷ 2 ∷ 0 ∷ 0 ∷ 0 ∷ 2 ∷ 0 ∷ 2 ∷ 2 ∷ 0 ∷ 2 ∷ 2 ∷ 0 ∷ 2 ∷ 0 ∷ 2 ∷ 2 ∷ 2 ∷ 0 ∷ 1 ∷ 4 ∷ 0 ∷ 4 ∷ 2 ∷ 1 ∷ 4 ∷ 2 ∷ 2 ∷ 2 ∷ 1 ∷ []

-- the same squares on one film
abbrev pub side_twice : List ℕ
side_twice = 0 ∷ 0 ∷ 2 ∷ 0 ∷ 0 ∷ 2 ∷ 0 ∷ 4 ∷ 0 ∷ 0 ∷ 0 ∷ 2 ∷ 0 ∷ 0 ∷ 0 ∷ 2 ∷ 0 ∷ 2 ∷ 2 ∷ 0 ∷ 2 ∷ 2 ∷ 0 ∷ 2 ∷ 0 ∷ 2 ∷ 2 ∷ 2 ∷ 0 ∷ 0 ∷ 4 ∷ 0 ∷ 4 ∷ 2 ∷ 0 ∷ 4 ∷ 2 ∷ 2 ∷ 2 ∷ 0 ∷ []

-- outlines of films 0 and 1 with one top: the later top edge is film 1's, and film 0's
abbrev pub one_top : List ℕ
one_top = 0 ∷ 0 ∷ 1 ∷ 1 ∷ 0 ∷ 1 ∷ 1 ∷ 0 ∷ 0 ∷ 0 ∷ 2 ∷ 0 ∷ 1 ∷ 1 ∷ 1 ∷ 1 ∷ 1 ∷ 2 ∷ 0 ∷ 1 ∷ []

abbrev pub one_top_around : List ℕ
one_top_around = 0 ∷ 0 ∷ 1 ∷ 1 ∷ 0 ∷ 2 ∷ 0 ∷ 1 ∷ 1 ∷ 1 ∷ 1 ∷ 1 ∷ 2 ∷ 0 ∷ 1 ∷ 1 ∷ 1 ∷ 0 ∷ 0 ∷ 0 ∷ []

-- the two outlines that meet in (1,6), the upper one on film 1
abbrev pub touching_films : List ℕ
touching_films = 3 ∷ 2 ∷ 1 ∷ 6 ∷ 0 ∷ 1 ∷ 6 ∷ 3 ∷ 0 ∷ 0 ∷ 1 ∷ 6 ∷ 2 ∷ 7 ∷ 1 ∷ 3 ∷ 0 ∷ 6 ∷ 8 ∷ 0 ∷ 6 ∷ 8 ∷ 3 ∷ 2 ∷ 0 ∷ 2 ∷ 7 ∷ 0 ∷ 9 ∷ 1 ∷ 0 ∷ 9 ∷ 1 ∷ 6 ∷ 1 ∷ []

-- 02 M-104: two pixels that touch in (1,1), each round its own film
abbrev pub two_pixels : List ℕ
two_pixels = 1 ∷ 0 ∷ 2 ∷ 0 ∷ 0 ∷ 0 ∷ 1 ∷ 1 ∷ 1 ∷ 0 ∷ 1 ∷ 1 ∷ 1 ∷ 0 ∷ 0 ∷ 2 ∷ 0 ∷ 2 ∷ 1 ∷ 0 ∷ 2 ∷ 1 ∷ 1 ∷ 1 ∷ 0 ∷ 0 ∷ 2 ∷ 0 ∷ 1 ∷ 0 ∷ 1 ∷ 1 ∷ 1 ∷ 2 ∷ 0 ∷ 1 ∷ 2 ∷ 0 ∷ 2 ∷ 0 ∷ []

-- two outlines that cross in (1,1): on one film arriving and leaving edges do not alternate there
abbrev pub crossing : ℕ → List ℕ
crossing film = 1 ∷ 0 ∷ 0 ∷ 1 ∷ 0 ∷ 0 ∷ 1 ∷ 1 ∷ 1 ∷ 0 ∷ 1 ∷ 1 ∷ 1 ∷ 0 ∷ 0 ∷ 1 ∷ 1 ∷ 2 ∷ 1 ∷ film ∷ 1 ∷ 2 ∷ 1 ∷ 1 ∷ film ∷ 2 ∷ 1 ∷ 1 ∷ 2 ∷ film ∷ []

-- the two lower edges at (1,2) lie in one direction, over different lengths; from each arriving edge a leaving one would still be met first
abbrev pub one_way : List ℕ
one_way = 1 ∷ 1 ∷ 1 ∷ 0 ∷ 0 ∷ 1 ∷ 0 ∷ 1 ∷ 2 ∷ 0 ∷ 1 ∷ 2 ∷ 1 ∷ 1 ∷ 0 ∷ 1 ∷ 2 ∷ 2 ∷ 2 ∷ 0 ∷ 2 ∷ 2 ∷ 2 ∷ 3 ∷ 0 ∷ 2 ∷ 3 ∷ 1 ∷ 2 ∷ 0 ∷ []
