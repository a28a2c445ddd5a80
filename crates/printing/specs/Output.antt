-- What the program prints for a text (01, "The program and the host"), as a function from bytes to bytes. The text is read by the definitions of crates/text,
-- its edges are numbered by the outcome of a call (crates/numbering), and the answer is written in lines. "01 Program 4" in a comment names the fourth
-- sentence under that heading.
use Rattle.std.specs.Prelude.{ℕ, zero, suc, ◌*◌, List, [], ◌∷◌, ◌++◌, ℤ, pos, get_or, replicate, Result, Ok, Err}
use Prim.Native.Char.{code}
use Prim.Native.String as string
use Prim.Native.String.{String}
use Rattle.laws.specs.Listing.{listed}
use Rattle.sheet.specs.declared.Edge.{Edge}
use Rattle.sheet.specs.declared.Numbered.{Numbered}
use Rattle.sheet.specs.declared.Refusal.{Refusal}
use Rattle.sheet.specs.Answers.{number_of, place_of}
use Rattle.text.specs.declared.TextRefusal.TheVariants.{TooMuch, Malformed}
use Rattle.text.specs.Lines.{space, newline, edge_in}
use Rattle.text.specs.Texts.{Reading, line_of, reading_of}
use Rattle.text.specs.Written as written
use Rattle.numbering.specs.Outcome.{Lent, Left, lent, outcome}
use Rattle.sheet.specs.Amounts.{numbers_per_edge, journal_numbers_per_edge}
use Rattle.steps.specs.Swept.{numbers_per_row}

-- the bytes of an ASCII text
abbrev pub bytes : String → List ℕ
bytes string.[] = []
bytes (string.◌∷◌ c s) = code c ∷ bytes s

-- a number's decimal digits: up to n + 1 of them, none a leading zero (proofs/Digits.antt, `decimal-is`)
unfoldable pub decimal : ℕ → List ℕ
decimal n = written.decimal (suc n) n

-- words with one space between, and a newline after the last
abbrev pub line : List ℕ → List (List ℕ) → List ℕ
line word [] = word ++ (newline ∷ [])
line word (next ∷ more) = word ++ (space ∷ line next more)

-- 01 Program 6: polygons, peak, records
unfoldable pub accepted : Numbered → List ℕ
accepted n = line (bytes "accepted") (decimal n.polygons ∷ decimal n.peak ∷ decimal n.records ∷ [])

-- 01 Program 7: number, place
unfoldable pub refused : ℕ → ℕ → List ℕ
refused number place = line (bytes "refused") (decimal number ∷ decimal place ∷ [])

-- 01 Program 6: an edge as place, polygon, sequence
unfoldable pub edge_line : ℕ → ℕ → ℕ → List ℕ
edge_line place polygon sequence = line (decimal place) (decimal polygon ∷ decimal sequence ∷ [])

-- .. the last first, of n edges
unfoldable pub edge_lines : List ℕ → List ℕ → ℕ → List ℕ
edge_lines polygons sequences zero = []
edge_lines polygons sequences (suc e) = edge_line e (get_or polygons e 0) (get_or sequences e 0) ++ edge_lines polygons sequences e

-- 01 Program 6 and 7: what is printed for n edges, by the answer of their call and its two lists
abbrev pub answer_lines : ℕ → Result Numbered Refusal → List ℕ → List ℕ → List ℕ
answer_lines n (Ok numbered) polygons sequences = accepted numbered ++ edge_lines polygons sequences n
answer_lines n (Err r) polygons sequences = refused (number_of r) (place_of r)

unfoldable pub outcome_lines : ℕ → Left (Result Numbered Refusal) → List ℕ
outcome_lines n x = answer_lines n x.answer x.polygons x.sequences

-- 01 Program 5: 256 rows are lent; with them lists of one number an edge and a journal of eight. All of them hold zeros.
abbrev pub lent_for : ℕ → List ℤ → Lent
lent_for n list = lent list (replicate n 0) (replicate n 0) n (replicate (journal_numbers_per_edge * n) (pos 0)) (replicate (numbers_per_row * 256) (pos 0))

-- an edge's five numbers in their order
abbrev pub five_numbers : Edge → List ℤ
five_numbers e = e.tail.x ∷ e.tail.y ∷ e.head.x ∷ e.head.y ∷ e.film ∷ []

-- the edges of the first n lines
abbrev pub edges_read : List ℕ → ℕ → List ℤ
edges_read s n = listed (λ i. five_numbers (edge_in (line_of s i))) n

-- 01 Program 4: a text past the limits is refused by 2, the first malformed line by 15 with its number; otherwise the edges are numbered
abbrev pub reading_lines : List ℕ → Reading → List ℕ
reading_lines s (Err TooMuch) = refused 2 0
reading_lines s (Err (Malformed line)) = refused 15 line
reading_lines s (Ok n) = outcome_lines n (outcome (lent_for n (edges_read s n)))

-- the text is read into a room of five numbers for each of 512 lines
unfoldable pub printed : List ℕ → List ℕ
printed s = reading_lines s (reading_of s (numbers_per_edge * 512))
