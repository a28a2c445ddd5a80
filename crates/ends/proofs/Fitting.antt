-- What is known of an edge that fits into words: its ends are in the range, its film is one, and the ends are two.
use Rattle.std.proofs.Common.{◌≡◌, ℕ, ◌<◌, true, false, List, ℤ}
use Rattle.laws.proofs.Deciding.{both_true}
use Rattle.laws.proofs.Tests.{not-false}
use Rattle.sheet.specs.Points.{in_range, is_film, is_same}
use Rattle.sheet.specs.Edges.{edge_at}
use Rattle.sheet.specs.Answers.{past_range, film_past_range, equal_ends}
use Rattle.ends.specs.Fitting.{EndsFit}

pub in-range-of : (s : List ℤ) (e : ℕ) → past_range s e ≡ false → (in_range (edge_at s e).tail ≡ true) × (in_range (edge_at s e).head ≡ true)
unfolding past_range
in-range-of s e h = both_true (in_range (edge_at s e).tail) (in_range (edge_at s e).head) (not-false _ h)

module _ {s : List ℤ} {n : ℕ} (E : EndsFit s n) (e : ℕ) (l : e < n) where
  pub tail-in : in_range (edge_at s e).tail ≡ true
  tail-in = (in-range-of s e (E.in_range e l)).0

  pub head_in : in_range (edge_at s e).head ≡ true
  head_in = (in-range-of s e (E.in_range e l)).1

  pub film-in : is_film (edge_at s e).film ≡ true
  unfolding film_past_range
  film-in = not-false _ (E.on_film e l)

  pub ends-differ : is_same (edge_at s e).tail (edge_at s e).head ≡ false
  unfolding equal_ends
  ends-differ = E.two_ends e l
