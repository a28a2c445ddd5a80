-- The lists whose ends can be told by words.
use Rattle.std.specs.Prelude.{◌≡◌, ℕ, ◌*◌, ◌<◌, ◌≤◌, false, List, length, ℤ}
use Rattle.sheet.specs.Edges.{edges_in}
use Rattle.sheet.specs.Answers.{past_range, film_past_range, equal_ends}
use Rattle.sheet.specs.Amounts.{numbers_per_edge, most_edges}

-- A list of n edges that passes 2, 5, 16 and 6: its ends and films fit into words, and each edge has two ends. Whether the tops fall is not asked.
pub record EndsFit (s : List ℤ) (n : ℕ) : Type 0 where
  pub all : n ≡ edges_in s
  pub few : n ≤ most_edges
  pub long : numbers_per_edge * n ≤ length s
  pub in_range : (e : ℕ) → e < n → past_range s e ≡ false
  pub on_film : (e : ℕ) → e < n → film_past_range s e ≡ false
  pub two_ends : (e : ℕ) → e < n → equal_ends s e ≡ false
