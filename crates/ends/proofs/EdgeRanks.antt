-- An edge by the ranks of its ends, both in the range: it is up where its tail's rank is the lower one, its top has the higher rank and its bottom the lower.
use Rattle.std.proofs.Common.{◌≡◌, ◌<◌, ◌≤◌, min, max, Bool, true, false, cond, ltb, sym, refl, ◌∙◌, arith, ltb-false, ltb-true}
use Rattle.sheet.specs.declared.Edge.{Edge}
use Rattle.sheet.specs.Points.{in_range, is_up, top_of, bottom_of}
use Rattle.sheet.specs.Rank.{rank}
use Rattle.sheet.proofs.Ranks.{rank_below}

module _ (e : Edge) (tail-in : in_range e.tail ≡ true) (head_in : in_range e.head ≡ true) where
  pub up-by-rank : is_up e ≡ ltb (rank e.tail) (rank e.head)
  unfolding is_up
  up-by-rank = rank_below e.tail e.head tail-in head_in

  chosen : (u : Bool) → is_up e ≡ u → (rank (cond u e.head e.tail) ≡ max (rank e.tail) (rank e.head)) × (rank (cond u e.tail e.head) ≡ min (rank e.tail) (rank e.head))
  chosen true u = let l : rank e.tail < rank e.head = ltb-true _ _ (sym up-by-rank ∙ u) in (omega arith, omega arith)
  chosen false u = let l : rank e.head ≤ rank e.tail = ltb-false _ _ (sym up-by-rank ∙ u) in (omega arith, omega arith)

  pub top-by-rank : rank (top_of e) ≡ max (rank e.tail) (rank e.head)
  unfolding top_of
  top-by-rank = (chosen (is_up e) refl).0

  pub bottom-by-rank : rank (bottom_of e) ≡ min (rank e.tail) (rank e.head)
  unfolding bottom_of
  bottom-by-rank = (chosen (is_up e) refl).1
