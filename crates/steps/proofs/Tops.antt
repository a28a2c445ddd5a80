-- The top and the bottom that the steps go by are the drawing's: an edge of the list has its top and bottom where its heights say.
use mathlib.Core.Path.{◌≡◌}
use mathlib.Core.Logic.{⊎_elim}
use Prim.Native.Nat.{ℕ, ◌≤◌, ◌<◌}
use native.Mathlib.Omega.{arith}
use borrow.Author.Tests.{lt-ltb, le-ltb}
use Rattle.laws.proofs.Deciding.{lt-or-le}
use Rattle.sheet.specs.Edges.{Drawing, top_height, bottom_height}
use Rattle.steps.specs.SweepUp.{side_of, bottom, top}
use Rattle.steps.specs.Swept.{places_of, drawn_edge}

pub record StepHeights (sh : Drawing) (e : ℕ) : Type 0 where
  pub top_is : sh.height (top (side_of (places_of sh) (drawn_edge sh e)) (drawn_edge sh e)) ≡ top_height sh e
  pub bottom_is : sh.height (bottom (side_of (places_of sh) (drawn_edge sh e)) (drawn_edge sh e)) ≡ bottom_height sh e

pub step-heights : (sh : Drawing) (e : ℕ) → StepHeights sh e
step-heights sh e = ⊎_elim up down (lt-or-le (sh.height (sh.tail e)) (sh.height (sh.head e)))
  where
    up : sh.height (sh.tail e) < sh.height (sh.head e) → StepHeights sh e
    up l =
        let t = lt-ltb (sh.height (sh.tail e)) (sh.height (sh.head e)) l in
        record { top_is = rw t (omega arith); bottom_is = rw t (omega arith) }

    down : sh.height (sh.head e) ≤ sh.height (sh.tail e) → StepHeights sh e
    down l =
        let t = le-ltb (sh.height (sh.tail e)) (sh.height (sh.head e)) l in
        record { top_is = rw t (omega arith); bottom_is = rw t (omega arith) }
