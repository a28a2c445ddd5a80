-- The tables of the sweep down on the lent slices. The rows' slice is the look-up table: in row r, number 8 r is the polygon number and number 8 r + 1
-- the sequence number. The answers are two lists of natural numbers. What no list makes happen has a plain meaning all the same: a read past the end gives
-- 0 and a store there does nothing, a sequence number that 32 signed bits do not hold is stored as 0, and an answer below 0 is given as 0.
use Rattle.std.specs.Prelude.{ℕ, ◌+◌, ◌*◌, cond, List, [], ◌∷◌, ltb, ℤ, pos, get_or, set}
use Rattle.std.proofs.lemmas.List.Edits.{sets}
use Rattle.std.specs.Int.Signed.{mag}
use Rattle.steps.specs.SweepDown.{Pair, Tables, Reading}
use Rattle.steps.specs.SweepDown.{natural_part}
use Rattle.journal.specs.Layout.{fitting}
use Rattle.steps.specs.Swept.{numbers_per_row}

-- the polygon numbers and the sequence numbers of the edges
pub record Answers : Type 0 where
  pub polygons : List ℕ
  pub sequences : List ℕ

-- a number that 32 signed bits hold as it is, any other as 0
unfoldable pub narrowed : ℤ → ℤ
narrowed z = cond (ltb (mag z) 2147483648) z (pos 0)

unfoldable pub numbers_in : List ℤ → ℕ → Pair
numbers_in s r = record { polygon = natural_part (get_or s (numbers_per_row * r) (pos 0)); sequence = get_or s (numbers_per_row * r + 1) (pos 0) }

unfoldable pub given_in : List ℤ → ℕ → Pair → List ℤ
given_in s r v = sets s (numbers_per_row * r) (pos (fitting v.polygon) ∷ narrowed v.sequence ∷ [])

unfoldable pub answered_in : Answers → ℕ → Pair → Answers
answered_in l e v = record { polygons = set l.polygons e v.polygon; sequences = set l.sequences e (natural_part v.sequence) }

unfoldable pub tables : Tables (List ℤ) Answers
tables = record { look = numbers_in; given = given_in; answered = answered_in }

-- how far a sweep down has come, with so many polygons
abbrev pub reading : List ℤ → List ℕ → List ℕ → ℕ → Reading (List ℤ) Answers
reading rows p q n = record { table = rows; answers = record { polygons = p; sequences = q }; polygons = n }
