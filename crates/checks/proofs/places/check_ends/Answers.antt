-- `checks::places::check_ends` meets its contract: 8 is answered before 9, and 9 before 17, which is asked of a sound list. Only where
-- none of them is given are places numbered.
use mathlib.Core.Path.{◌≡◌, refl, sym, subst}
use Prim.Native.Nat.{◌*◌, ◌/◌}
use native.Mathlib.Omega.{arith}
use lib.ListN.{length}
use lib.Seq.{length-take-le}
use Rattle.laws.proofs.Deciding.{not-both}
use Rattle.sheet.specs.Edges.{edges_in}
use Rattle.checks.specs.Places.{Walks}
use Rattle.checks.specs.Numbers.{OneEach}
use Rattle.checks.proofs.Answering.{on-repeat, on-uneven, on-tangle, on_none}
use Rattle.checks.proofs.SoundList.{sound-ends}
use Rattle.checks.proofs.CornersMarked.{all-marked, first-tangle}
use Rattle.checks.proofs.PlaceNumbers.{one_each, all-numbered, numbers-of, numbers-given, numbers-kept}
use Rattle.checks.proofs.places.check_ends.Goals as goal

pub slice_bounds-words-end : goal.slice_bounds-words-end
unfolding edges_in
slice_bounds-words-end c = c.requires.room

pub slice_bounds-words-end-2 : goal.slice_bounds-words-end-2
unfolding edges_in
slice_bounds-words-end-2 c = sym (length-take-le _ c.args.room.now c.requires.room)

pub first_at_fault-repeated-requires : goal.first_at_fault-repeated-requires
unfolding edges_in
first_at_fault-repeated-requires c = (c.requires.list.0, length-take-le _ c.args.room.now c.requires.room)

pub returns-in-Some : goal.returns-in-Some
returns-in-Some c = (
  on-repeat _ c.first_at_fault-repeated.ensures.value c.in-Some.is,
  record { seen = λ h. absurd (not-both h refl); unseen = λ h. c.requires.list.1 },
  numbers-kept c.requires.list.2,
)

pub returns-in-Some-uneven : goal.returns-in-Some-uneven
returns-in-Some-uneven c = (
  on-uneven _ c.first_at_fault-repeated.ensures.value c.in_default.is c.in-Some-uneven.is,
  record { seen = λ h. absurd (not-both h refl); unseen = λ h. c.requires.list.1 },
  numbers-kept c.requires.list.2,
)

pub walk-requires-clause-list : goal.walk-requires-clause-list
unfolding edges_in
walk-requires-clause-list c =
    let found = c.first_at_fault-repeated.ensures in
    let room = length-take-le _ c.args.room.now c.requires.room in
    (sound-ends c.requires.list.0 found.value found.ordered c.in_default.is c.in_default-uneven.is, omega (arith, room, c.first_at_fault-repeated.auto.words))

pub returns-in-Some-walk : goal.returns-in-Some-walk
returns-in-Some-walk c =
    let found = c.first_at_fault-repeated.ensures in
    let S = sound-ends c.requires.list.0 found.value found.ordered c.in_default.is c.in_default-uneven.is in (
      on-tangle _ found.value c.in_default.is c.in_default-uneven.is (first-tangle S c.walk.ensures) c.in-Some-walk.is,
      record { seen = λ h. all-marked S c.walk.ensures; unseen = λ h. absurd (not-both refl h) },
      numbers-kept c.requires.list.2,
    )

pub number_places-requires-clause-words : goal.number_places-requires-clause-words
unfolding edges_in
number_places-requires-clause-words c =
    let words = c.first_at_fault-repeated.new.words in
    let found = c.first_at_fault-repeated.ensures in
    let room = length-take-le _ c.args.room.now c.requires.room in
    let all : 2 * edges_in c.args.edges.now ≡ length words = omega (arith, room, c.first_at_fault-repeated.auto.words) in
    let half : edges_in c.args.edges.now ≡ length words / 2 = omega (arith, all) in
    (subst (Walks words) all found.ordered.1, subst (OneEach words) half (one_each c.requires.list.0 found.ordered.0))

pub number_places-requires-clause-whole : goal.number_places-requires-clause-whole
unfolding edges_in
number_places-requires-clause-whole c =
    let room = length-take-le _ c.args.room.now c.requires.room in
    omega (arith, room, c.first_at_fault-repeated.auto.words)

pub returns : goal.returns
unfolding edges_in
returns c =
    let words = c.first_at_fault-repeated.new.words in
    let found = c.first_at_fault-repeated.ensures in
    let room = length-take-le _ c.args.room.now c.requires.room in
    let all : length words ≡ 2 * edges_in c.args.edges.now = omega (arith, room, c.first_at_fault-repeated.auto.words) in
    let S = sound-ends c.requires.list.0 found.value found.ordered c.in_default.is c.in_default-uneven.is in (
      on_none _ found.value c.in_default.is c.in_default-uneven.is (first-tangle S c.walk.ensures) c.in_default-walk.is,
      record { seen = λ h. all-marked S c.walk.ensures; unseen = λ h. absurd (not-both refl h) },
      numbers-given (all-numbered c.requires.list.0 S.ordered (numbers-of (edges_in c.args.edges.now) all c.number_places.ensures)),
    )
