-- Demand 3 in figures: C, L, the whole part of log2 L and the rows of four sheets, each with its polygon numbers. They are computed, and demand 3 has
-- no others (RowsEnough).
use Prim.Native.Nat.{ℕ, ◌<◌}
use mathlib.Core.Path.{◌≡◌, refl, ap, ◌∙◌}
use mathlib.Core.List.{List, [], ◌∷◌, map}
use native.Mathlib.Omega.{arith}
use lib.IntN.{pos}
use lib.ListN.{get_or}
use Rattle.laws.specs.Counting as counting
use Rattle.laws.proofs.Logarithm.{whole_log2}
use Rattle.sheet.specs.Edges as edges
use Rattle.sheet.specs.Edges.{Drawing, drawing_of}
use Rattle.sheet.specs.Rank as ranks
use Rattle.sheet.specs.Passing as passed
use Rattle.sheet.specs.Passing.{Enough}
use Rattle.sheet.proofs.Drawn.{triangle, square, touching, shared_side}
use Rattle.sheet.proofs.RowsEnough.{most_passing, longest_outline, rows_enough, rows-enough, enough-is}

abbrev drawn : List ℕ → Drawing
drawn list = drawing_of (map pos list)

abbrev numbered : List ℕ → ℕ → ℕ
numbered polygons e = get_or polygons e 0

-- the rows are enough for the sheet with these polygon numbers, and whatever is enough for it has these figures
pub record Figures (list polygons : List ℕ) (C L log rows : ℕ) : Type 0 where
  pub are_enough : Enough (drawn list) (numbered polygons) rows
  pub no_others : {r : ℕ} (a : Enough (drawn list) (numbered polygons) r) → (a.C ≡ C) × (a.L ≡ L) × (a.log ≡ log) × (r ≡ rows)

module _ (list polygons : List ℕ) (some : 0 < (drawn list).edges) where
  figures : {C L log rows : ℕ} → most_passing (drawn list) ≡ C → longest_outline (drawn list) (numbered polygons) ≡ L → whole_log2 L ≡ log → rows_enough (drawn list) (numbered polygons) ≡ rows → Figures list polygons C L log rows
  figures c l g r = record {
    are_enough = rw r at (rows-enough (drawn list) (numbered polygons) some);
    no_others = λ a. let e = enough-is (drawn list) (numbered polygons) some a in (e.0 ∙ c, e.1 ∙ l, e.2 ∙ ap whole_log2 l ∙ g, e.3 ∙ r);
  }

pub record Table : Type 0 where
  pub of_triangle : Figures triangle (1 ∷ 1 ∷ 1 ∷ []) 2 3 1 2
  pub of_square : Figures square (1 ∷ 1 ∷ 1 ∷ 1 ∷ []) 2 4 2 4
  pub of_touching : Figures touching (2 ∷ 2 ∷ 1 ∷ 2 ∷ 2 ∷ 1 ∷ 1 ∷ []) 4 4 2 8
  pub of_shared_side : Figures shared_side (2 ∷ 1 ∷ 2 ∷ 2 ∷ 2 ∷ 1 ∷ 1 ∷ 1 ∷ []) 4 4 2 8

pub table : Table
unfolding most_passing longest_outline rows_enough whole_log2 passed.passing passed.outline_size counting.largest counting.count counting.first counting.first_from drawing_of edges.edges_in edges.edge_at ranks.rank ranks.shift ranks.place_on
table = record {
  of_triangle = figures _ _ (omega arith) refl refl refl refl;
  of_square = figures _ _ (omega arith) refl refl refl refl;
  of_touching = figures _ _ (omega arith) refl refl refl refl;
  of_shared_side = figures _ _ (omega arith) refl refl refl refl;
}
