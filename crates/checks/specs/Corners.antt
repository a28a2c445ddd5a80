-- Corners as the walk over places in order finds them, in a list that passes 8 and 9: the least edge with an end at a place that 17 is given for, and a mark
-- for each edge whose top is apart.
use Rattle.std.specs.Prelude.{◌≡◌, Bool, true, false, not, cond, ◌&&◌, List, ℕ, ◌*◌, ◌<◌, eqb, ltb, ℤ, length, get_or, replicate, Result, ⊤, Ok, Err, Option}
use Rattle.sheet.specs.Amounts.{most_edges}
use Rattle.sheet.specs.Turning.{Sign, turn}
use Rattle.sheet.specs.Edges.{Drawing, edges_in, drawing_of}
use Rattle.sheet.specs.Corners.{apart}
use Rattle.sheet.specs.Sound.{Sound}
use Rattle.sheet.specs.Answers.{number_of, tangled}
use Rattle.ends.specs.Fitting.{EndsFit}
use Rattle.ends.specs.Ends.{place_in, edge_in, Ordered}
use Rattle.checks.specs.Places.{Walks, Least}
use Rattle.sheet.specs.declared.Refusal.{Refusal}

-- the place of an edge's top
abbrev pub top_place : Drawing → ℕ → ℕ
top_place sh e = cond (ltb (sh.height (sh.tail e)) (sh.height (sh.head e))) (sh.head e) (sh.tail e)

-- a place is apart, and not one that 17 is given for
unfoldable pub parts : Drawing → ℕ → Bool
parts sh p = apart sh p && not (tangled sh p)

-- the marks: true for each edge of the list whose top is apart, false for any other
pub record Marked (s : List ℤ) (marks : List Bool) : Type 0 where
  pub size : length marks ≡ most_edges
  pub mark : (e : ℕ) → get_or marks e false ≡ (ltb e (edges_in s) && parts (drawing_of s) (top_place (drawing_of s) e))

abbrev pub no_marks : List Bool
no_marks = replicate most_edges false

-- corners are looked at where 8 and 9 are passed
abbrev pub corners_seen : Result ⊤ Refusal → Bool
corners_seen (Ok _) = true
corners_seen (Err r) = eqb (number_of r) 17

-- what a check leaves in the marks, of which it was lent none
pub record MarksAfter (s : List ℤ) (answer : Result ⊤ Refusal) (marks : List Bool) : Type 0 where
  pub seen : corners_seen answer ≡ true → Marked s marks
  pub unseen : corners_seen answer ≡ false → marks ≡ no_marks

-- the turn from the way that an edge came to the way that another one leaves
abbrev pub turn_in : List ℤ → ℕ → ℕ → Sign
turn_in s arriving leaving = turn ((drawing_of s).back arriving) ((drawing_of s).ahead leaving)

-- the ends in order, of a list that passes 8 and 9
pub record SoundEnds (s : List ℤ) (words : List ℕ) (n : ℕ) : Type 0 where
  pub fit : EndsFit s n
  pub ordered : Ordered s words n
  pub walks : Walks words (2 * n)
  pub sound : Sound (drawing_of s)

unfoldable pub tangled_in : List ℤ → List ℕ → ℕ → Bool
tangled_in s words k = tangled (drawing_of s) (place_in words k)

-- what is found, and marked, at the places of the first b ends
pub record CornersSoFar (s : List ℤ) (words : List ℕ) (n b : ℕ) (found : Option ℕ) (marks : List Bool) : Type 0 where
  pub tangles : Least (tangled_in s words) (edge_in words) 0 b found
  pub size : length marks ≡ most_edges
  pub seen : (e k : ℕ) → e < n → k < b → place_in words k ≡ top_place (drawing_of s) e → get_or marks e false ≡ parts (drawing_of s) (top_place (drawing_of s) e)
  pub unseen : (e : ℕ) → ((k : ℕ) → e < n → k < b → place_in words k ≡ top_place (drawing_of s) e → ⊥) → get_or marks e false ≡ false
