-- The amounts that the paper names, each said here once.
use Rattle.std.specs.Prelude.{ℕ}

-- 02 M-100: the numbers of an edge in a list
abbrev pub numbers_per_edge : ℕ
numbers_per_edge = 5

-- 02 M-100: the films, 0 to 255
abbrev pub films : ℕ
films = 256

-- 01 Points 1.3: the edges that a list may hold
abbrev pub most_edges : ℕ
most_edges = 4096

-- 01 Answer sheet 4: the numbers of the journal that are lent for an edge
abbrev pub journal_numbers_per_edge : ℕ
journal_numbers_per_edge = 8
