-- A line in a text (01 Program 1, M-100): five numbers, one space after each of the first four and a newline after the last. They are an edge's tail x,
-- tail y, head x, head y and film. How large a film may be is not the text's to say: it is a number like the others.
use Rattle.std.specs.Prelude.{ℕ, ◌+◌, Bool, true, false, cond, List, eqb, ℤ, pos}
use Rattle.sheet.specs.declared.Edge.{Edge}
use Rattle.text.specs.Said.{Said, read, refused, malformed, and_then}
use Rattle.text.specs.Numbers.{byte_at, number_at}

-- the place after the byte b, which must stand at i
unfoldable pub past_at : List ℕ → ℕ → ℕ → Said Unit
past_at s i b = cond (eqb (byte_at s i) b) (read tt (i + 1)) (refused malformed)

-- the number at i with the byte b after it
unfoldable pub field_at : List ℕ → ℕ → ℕ → Said ℤ
field_at s b i =
    and_then (number_at s i) λ z i.
    and_then (past_at s i b) λ u i.
    read z i

abbrev pub space : ℕ
space = 32

abbrev pub newline : ℕ
newline = 10

abbrev pub edge_of : ℤ → ℤ → ℤ → ℤ → ℤ → Edge
edge_of a b c d f = record { tail = record { x = a; y = b }; head = record { x = c; y = d }; film = f }

-- the line that begins at i, and the place after it
unfoldable pub line_at : List ℕ → ℕ → Said Edge
line_at s i =
    and_then (field_at s space i) λ tail_x i.
    and_then (field_at s space i) λ tail_y i.
    and_then (field_at s space i) λ head_x i.
    and_then (field_at s space i) λ head_y i.
    and_then (field_at s newline i) λ film i.
    read (edge_of tail_x tail_y head_x head_y film) i

unfoldable pub is_malformed : Said Edge → Bool
is_malformed (read e i) = false
is_malformed (refused n) = true

-- a well-formed line's edge
unfoldable pub edge_in : Said Edge → Edge
edge_in (read e i) = e
edge_in (refused n) = edge_of (pos 0) (pos 0) (pos 0) (pos 0) (pos 0)
