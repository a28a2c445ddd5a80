-- The places of a list's ends by number. In order the ends of one place stand together: the place's number is half the ends before them.
use Rattle.std.specs.Prelude.{◌≡◌, List, ℕ, ◌+◌, ◌*◌, ◌/◌, ◌%◌, ◌≤◌, ◌<◌, eqb, ℤ, length, get_or, replicate, Result, ⊤, Ok, Err}
use Rattle.laws.specs.Counting.{first}
use Rattle.sheet.specs.declared.Refusal.{Refusal}
use Rattle.sheet.specs.Amounts.{most_edges}
use Rattle.sheet.specs.Edges.{edges_in, drawing_of}
use Rattle.sheet.specs.Kinds.{Way, end_of}
use Rattle.ends.specs.Ends.{way_number, place_in, edge_in, Ordered}

-- half the ends that are lower than a place of one of n edges
unfoldable pub place_number : List ℕ → ℕ → ℕ → ℕ
place_number words n p = first (λ k. eqb (place_in words k) p) (2 * n) / 2

-- each end of a list has the number of its place: an edge's tail first, then its head
pub record Numbered (s : List ℤ) (numbers : List ℕ) : Type 0 where
  pub size : length numbers ≡ 2 * most_edges
  pub words : List ℕ
  pub ordered : Ordered s words (edges_in s)
  pub number : (w : Way) (e : ℕ) → e < edges_in s → get_or numbers (2 * e + way_number w) 0 ≡ place_number words (edges_in s) (end_of (drawing_of s) w e)
  pub rest : (k : ℕ) → 2 * edges_in s ≤ k → get_or numbers k 0 ≡ 0

abbrev pub no_numbers : List ℕ
no_numbers = replicate (2 * most_edges) 0

-- what a check leaves in the numbers, which it was lent as zeros
pub record NumbersAfter (s : List ℤ) (answer : Result ⊤ Refusal) (numbers : List ℕ) : Type 0 where
  pub passed : answer ≡ Ok tt → Numbered s numbers
  pub refused : (r : Refusal) → answer ≡ Err r → numbers ≡ no_numbers

-- where the number stands of the end whose word is at k
abbrev pub end_in : List ℕ → ℕ → ℕ
end_in words k = 2 * edge_in words k + get_or words k 0 / 8192 % 2

-- the words of the ends of n edges, each of which stands once
pub record OneEach (words : List ℕ) (n : ℕ) : Type 0 where
  pub within : (k : ℕ) → k < 2 * n → end_in words k < 2 * n
  pub once : (j k : ℕ) → j < 2 * n → k < 2 * n → end_in words j ≡ end_in words k → j ≡ k

-- the numbers of the first b ends in order are there, and none past those of n edges
pub record NumbersSoFar (words : List ℕ) (n b : ℕ) (numbers : List ℕ) : Type 0 where
  pub size : length numbers ≡ 2 * most_edges
  pub seen : (k : ℕ) → k < b → get_or numbers (end_in words k) 0 ≡ place_number words n (place_in words k)
  pub rest : (i : ℕ) → 2 * n ≤ i → get_or numbers i 0 ≡ 0
