use Rattle.std.specs.Prelude.{⊤}
use Rattle.sheet.specs.Points as points
use Rattle.sheet.specs.Rank as ranks
use Rattle.sheet.specs.Turning as turning
use Rattle.sheet.specs.Edges as edges
use Rattle.sheet.specs.Kinds as kinds
use Rattle.sheet.specs.Corners as corners
use Rattle.sheet.specs.Answers as answers
use Rattle.laws.proofs.Computing.{counts_computed}

-- `unfolding sheets_computed` lets `refl` compute what the checks say of a sheet that is written out
unfoldable pub sheets_computed : ⊤
unfolding
    counts_computed
    points.same_z
    points.is_below
    points.is_same
    points.within
    points.in_range
    points.is_film
    points.is_up
    points.top_of
    ranks.shift
    ranks.rank
    ranks.place_on
    turning.sign
    turning.towards
    turning.cross
    turning.turn
    turning.same_way
    turning.sooner
    edges.edge_at
    edges.edges_in
    edges.drawing_of
    kinds.comes
    kinds.number_at
    corners.four
    corners.of_kind
    corners.corner_at
    corners.two_in_one
    corners.leaving_first
    corners.alternate
    corners.lower_apart
    corners.apart
    answers.not_whole
    answers.too_many
    answers.lists_differ
    answers.journal_short
    answers.past_range
    answers.film_past_range
    answers.equal_ends
    answers.top_falls
    answers.same_kind
    answers.repeats
    answers.differ
    answers.uneven
    answers.tangled
    answers.not_alternating
    answers.checked
sheets_computed = tt
