-- The joining rule and outlines.
use Rattle.std.specs.Prelude.{ℕ, ◌<◌, ◌≡◌, false}
use Rattle.sheet.specs.Turning.{sooner}
use Rattle.sheet.specs.Edges.{Drawing}
use Rattle.sheet.specs.Kinds.{arriving, leaving}
use Rattle.sheet.specs.Corners.{along}

-- 02 M-104: edge f follows edge e. It leaves where e arrives, and turning clockwise from the way that e came it is the first that is met of all that leave
-- there. Where one edge leaves, it is that one, as in 01 Points 5.1.
pub record Follows (sh : Drawing) (e f : ℕ) : Type 0 where
  pub is_edge : e < sh.edges
  pub next_is_edge : f < sh.edges
  pub meet : sh.tail f ≡ sh.head e
  pub first_met : (g : ℕ) → g < sh.edges → sh.tail g ≡ sh.head e → sooner (along sh arriving e) (along sh leaving g) (along sh leaving f) ≡ false

-- 01 Points 6.1: an edge is in the outline of e where joins lead from e to it
pub data InOutline (sh : Drawing) (e : ℕ) : ℕ → Type 0 where
  itself : InOutline sh e e
  onwards : {f g : ℕ} → InOutline sh e f → Follows sh f g → InOutline sh e g
