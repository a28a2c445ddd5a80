-- The four kinds of an edge at a place, and what a sound list is.
use Rattle.std.specs.Prelude.{ℕ, Bool, true, false, cond, eqb, ltb}
use Rattle.laws.specs.Counting.{count}
use Rattle.sheet.specs.Edges.{Drawing}

-- 01 Points 4.1: at a place an edge arrives, with its head, or leaves, with its tail ..
pub data Way : Type 0 where
  arriving : Way
  leaving : Way

-- .. and it comes from one of two sides
pub data From : Type 0 where
  below : From
  above : From

abbrev pub other_from : From → From
other_from below = above
other_from above = below

abbrev pub same_from : From → From → Bool
same_from below below = true
same_from below above = false
same_from above below = false
same_from above above = true

abbrev pub other_way : Way → Way
other_way arriving = leaving
other_way leaving = arriving

-- where an edge arrives, and where it leaves
abbrev pub end_of : Drawing → Way → ℕ → ℕ
end_of sh arriving e = sh.head e
end_of sh leaving e = sh.tail e

-- it comes from below to the place where its other end is lower
unfoldable pub comes : Drawing → Way → ℕ → From
comes sh w e = cond (ltb (sh.height (end_of sh (other_way w) e)) (sh.height (end_of sh w e))) below above

-- how many edges arrive at a place, or leave it
unfoldable pub number_at : Drawing → Way → ℕ → ℕ
number_at sh w p = count (λ e. eqb (end_of sh w e) p) sh.edges
