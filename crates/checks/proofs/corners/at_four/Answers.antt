-- `checks::corners::at_four` meets its contract: the four ends stand by kind, and the turns below and above say what the place is.
use mathlib.Core.Path.{◌∙◌}
use borrow.Author.Rules.{rules}
use Rattle.checks.specs.Places.{any_end}
use Rattle.checks.proofs.AtCorners.{below-met, above-met, turns-told}
use Rattle.checks.proofs.CornersMarked.{tangled-step, joined_step_lem, apart-step}
use Rattle.checks.proofs.corners.at_four.Goals as goal

pub turn-low-requires-clause-list : goal.turn-low-requires-clause-list
turn-low-requires-clause-list c = let b = below-met c.requires.place.0 c.requires.place.1 c.edge_of-arriving.ensures c.edge_of-leaving.ensures in
    (c.requires.place.0.fit, b.0, b.1)

pub turn-low-requires-clause-meet : goal.turn-low-requires-clause-meet
turn-low-requires-clause-meet c = (below-met c.requires.place.0 c.requires.place.1 c.edge_of-arriving.ensures c.edge_of-leaving.ensures).2

pub turn-high-requires-clause-list : goal.turn-high-requires-clause-list
turn-high-requires-clause-list c = let u = above-met c.requires.place.0 c.requires.place.1 c.edge_of-arriving.ensures c.edge_of-leaving.ensures c.edge_of-incoming.ensures c.edge_of-outgoing.ensures in
    (c.requires.place.0.fit, u.0, u.1)

pub turn-high-requires-clause-meet : goal.turn-high-requires-clause-meet
turn-high-requires-clause-meet c = (above-met c.requires.place.0 c.requires.place.1 c.edge_of-arriving.ensures c.edge_of-leaving.ensures c.edge_of-incoming.ensures c.edge_of-outgoing.ensures).2

pub returns-then-not-alternate : goal.returns-then-not-alternate
returns-then-not-alternate c =
    let t = turns-told c.requires.place.0 c.requires.place.1 c.edge_of-arriving.ensures c.edge_of-leaving.ensures c.edge_of-incoming.ensures c.edge_of-outgoing.ensures c.turn-low.ensures c.turn-high.ensures c.alternate.ensures in
    rw c.lower.ensures (tangled-step c.requires.place.0 c.requires.place.1 (t.0 ∙ c.if-not-alternate.true) (c.least_edge.ensures any_end (λ k r l h t. search rules)) c.requires.found)

pub returns-then-low-gt0 : goal.returns-then-low-gt0
returns-then-low-gt0 c =
    let t = turns-told c.requires.place.0 c.requires.place.1 c.edge_of-arriving.ensures c.edge_of-leaving.ensures c.edge_of-incoming.ensures c.edge_of-outgoing.ensures c.turn-low.ensures c.turn-high.ensures c.alternate.ensures in
    apart-step c.requires.place.0 c.requires.place.1 (t.0 ∙ c.if-not-alternate.false) c.edge_of-arriving.ensures c.edge_of-leaving.ensures (t.1 ∙ c.if-low-gt0.true) c.requires.found

pub returns-else-low-gt0 : goal.returns-else-low-gt0
returns-else-low-gt0 c =
    let t = turns-told c.requires.place.0 c.requires.place.1 c.edge_of-arriving.ensures c.edge_of-leaving.ensures c.edge_of-incoming.ensures c.edge_of-outgoing.ensures c.turn-low.ensures c.turn-high.ensures c.alternate.ensures in
    joined_step_lem c.requires.place.0 c.requires.place.1 (t.0 ∙ c.if-not-alternate.false) (t.1 ∙ c.if-low-gt0.false) c.requires.found
