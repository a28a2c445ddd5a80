-- What the numbers say to whoever reads them: an edge's tail and its head have the numbers of their places.
use mathlib.Core.Path.{◌≡◌, ap, ◌∙◌}
use mathlib.Core.List.{List}
use Prim.Native.Nat.{ℕ, ◌+◌, ◌*◌, ◌<◌}
use native.Mathlib.Omega.{arith}
use lib.IntN.{ℤ}
use lib.ListN.{get_or}
use Rattle.sheet.specs.Edges.{edge_at, edges_in, drawing_of}
use Rattle.sheet.specs.Kinds.{arriving, leaving}
use Rattle.sheet.specs.Rank.{place_on}
use Rattle.ends.specs.Ends.{way_number}
use Rattle.checks.specs.Numbers.{place_number, Numbered}

module _ {s : List ℤ} {numbers : List ℕ} (N : Numbered s numbers) (e : ℕ) (l : e < edges_in s) where
  pub tail-number : get_or numbers (2 * e) 0 ≡ place_number N.words (edges_in s) (place_on (edge_at s e).film (edge_at s e).tail)
  unfolding drawing_of
  tail-number = let q : 2 * e ≡ 2 * e + way_number leaving = omega arith in ap (λ (k : ℕ). get_or numbers k 0) q ∙ N.number leaving e l

  pub head-number : get_or numbers (2 * e + 1) 0 ≡ place_number N.words (edges_in s) (place_on (edge_at s e).film (edge_at s e).head)
  unfolding drawing_of
  head-number = N.number arriving e l
