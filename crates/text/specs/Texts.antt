-- A whole text: its lines to the very end, the limits, the room, and what reading it answers and writes. A line begins at the front or after a newline,
-- and a last line that no newline ends is a line too. The first malformed line is the first number below the number of lines that passes a test.
use Rattle.std.specs.Prelude.{ℕ, zero, suc, ◌+◌, ◌-◌, ◌*◌, ◌≤◌, ◌<◌, ◌≡◌, Bool, cond, not, ◌&&◌, ◌||◌, List, eqb, ltb, ℤ, pos, get_or, length, set, Result, Ok, Err}
use Rattle.laws.specs.Counting.{bit, count, first}
use Rattle.sheet.specs.declared.Edge.{Edge}
use Rattle.sheet.specs.Edges.{edge_at}
use Rattle.text.specs.declared.TextRefusal.{TextRefusal}
use Rattle.text.specs.declared.TextRefusal.TheVariants.{TooMuch, Malformed}
use Rattle.text.specs.Said.{Said, malformed}
use Rattle.text.specs.Numbers.{byte_at}
use Rattle.text.specs.Lines.{newline, line_at, is_malformed, edge_in}
use Rattle.sheet.specs.Amounts.{numbers_per_edge}

-- what reading answers: how many edges the text holds, or why it is refused
abbrev pub Reading : Type 0
Reading = Result ℕ TextRefusal

unfoldable pub newline_at : List ℕ → ℕ → Bool
newline_at s i = eqb (byte_at s i) newline

unfoldable pub newlines : List ℕ → ℕ
newlines s = count (newline_at s) (length s)

-- bytes stand after the last newline
unfoldable pub unended : List ℕ → Bool
unended s = ltb 0 (length s) && not (newline_at s (length s - 1))

unfoldable pub line_count : List ℕ → ℕ
line_count s = newlines s + bit (unended s)

-- the place after the first newline from i on
unfoldable pub after_newline : List ℕ → ℕ → ℕ
after_newline s i = i + first (λ k. newline_at s (i + k)) (length s - i) + 1

-- where line n begins, counted from 0
unfoldable pub line_start : List ℕ → ℕ → ℕ
line_start s zero = 0
line_start s (suc n) = after_newline s (line_start s n)

unfoldable pub line_of : List ℕ → ℕ → Said Edge
line_of s n = line_at s (line_start s n)

-- the first malformed line of so many, counted from 0; as many as there are where none is
unfoldable pub first_malformed : List ℕ → ℕ → ℕ
first_malformed s lines = first (λ n. is_malformed (line_of s n)) lines

-- 01 Program 1 and 4: past the limit of bytes or of lines
unfoldable pub past_limits : List ℕ → Bool
past_limits s = ltb 20480 (length s) || ltb 512 (line_count s)

-- past a limit, or the room has fewer numbers than five for each line
unfoldable pub too_much : List ℕ → ℕ → Bool
too_much s room = past_limits s || ltb room (numbers_per_edge * line_count s)

-- what so many lines answer, m of them well formed in front of the first malformed one: lines are numbered from 1
unfoldable pub answer_of : ℕ → ℕ → Reading
answer_of lines m = cond (ltb m lines) (Err (Malformed (m + 1))) (Ok lines)

-- 01 Program 4: what a text answers where so much room is lent; the limits and the room are tried first
unfoldable pub reading_of : List ℕ → ℕ → Reading
reading_of s room = cond (too_much s room) (Err TooMuch) (answer_of (line_count s) (first_malformed s (line_count s)))

-- the number and the place of each refusal
abbrev pub text_number_of : TextRefusal → ℕ
text_number_of TooMuch = 2
text_number_of (Malformed line) = malformed

abbrev pub text_place_of : TextRefusal → ℕ
text_place_of TooMuch = 0
text_place_of (Malformed line) = line

-- both 0 where the text is read
abbrev pub reading_number : Reading → ℕ
reading_number (Err r) = text_number_of r
reading_number (Ok n) = 0

abbrev pub reading_place : Reading → ℕ
reading_place (Err r) = text_place_of r
reading_place (Ok n) = 0

-- how many lines are read: those in front of the first malformed one, none of a text that is too much
unfoldable pub lines_read : List ℕ → ℕ → ℕ
lines_read s room = cond (too_much s room) 0 (first_malformed s (line_count s))

-- a list with an edge's five numbers at its place
abbrev pub placed : List ℤ → ℕ → Edge → List ℤ
placed l n e =
    set (set (set (set (set l (numbers_per_edge * n) e.tail.x) (numbers_per_edge * n + 1) e.tail.y) (numbers_per_edge * n + 2) e.head.x) (numbers_per_edge * n + 3) e.head.y) (numbers_per_edge * n + 4) e.film

-- The room for edges after reading: the edges of the first m lines in their order, then what stood there before.
pub record Filled (s : List ℕ) (m : ℕ) (before after : List ℤ) : Type 0 where
  pub same_length : length after ≡ length before
  pub edges : (n : ℕ) → n < m → edge_at after n ≡ edge_in (line_of s n)
  pub rest : (k : ℕ) → numbers_per_edge * m ≤ k → get_or after k (pos 0) ≡ get_or before k (pos 0)

-- The answer and the room after so many lines have been tried.
pub record LinesTried (s : List ℕ) (lines : ℕ) (before after : List ℤ) (r : Reading) : Type 0 where
  pub answer : r ≡ answer_of lines (first_malformed s lines)
  pub filled : Filled s (first_malformed s lines) before after

-- The answer and the room after a whole text has been read into it. Where the answer is too much, nothing is written.
pub record Outcome (s : List ℕ) (before after : List ℤ) (r : Reading) : Type 0 where
  pub answer : r ≡ reading_of s (length before)
  pub filled : Filled s (lines_read s (length before)) before after
