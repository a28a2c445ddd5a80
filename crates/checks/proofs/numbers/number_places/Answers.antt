-- `checks::numbers::number_places` meets its contract. The loop's invariant: the ends before k have their numbers, and of the place of the last of them it is
-- known where it begins.
use mathlib.Core.Path.{◌≡◌, subst}
use mathlib.Core.Bool.{cond}
use Prim.Native.Nat.{◌*◌, ◌/◌, ◌<◌}
use native.Mathlib.Omega.{arith}
use lib.Dec.{eqb}
use lib.ListN.{length}
use borrow.Author.Tests.{eq-eqb, ne_eqb}
use Rattle.checks.specs.Places.{Walks}
use Rattle.checks.proofs.PlaceNumbers.{begun-none, begun_more, start-within, half-start, numbers-none, numbers_more}
use Rattle.checks.proofs.numbers.number_places.Goals as goal
use Rattle.checks.proofs.numbers.number_places.Goals.{then-here-place, else-here-place}

pub loop-k-init : goal.loop-k-init
loop-k-init c = (begun-none c.args.words.now _ 0, rw c.requires.numbers (numbers-none c.args.words.now _))

pub overflow_cast-numbers : goal.overflow_cast-numbers
overflow_cast-numbers c =
    let words = c.args.words.now in
    let all : length words ≡ 2 * (length words / 2) = omega (arith, c.requires.whole) in
    let walks = subst (Walks words) all c.requires.words.0 in
    let here : c.loop-k.k < 2 * (length words / 2) = omega (arith, all, c.loop-k-test.true) in
    let next : c.if-here-place.first ≡ cond (eqb c.place_of-here.result c.loop-k.place) c.loop-k.first c.loop-k.k =
    elim c.if-here-place.branch [ then-here-place w ↦ rw (eq-eqb _ _ w.if-here-place.true) w.first-is | else-here-place w ↦ rw (ne_eqb _ _ w.if-here-place.false) w.first-is ] in
    omega (arith, start-within walks c.loop-k.invariant.0 here c.place_of-here.ensures next, walks.few)

pub loop-k-preserved : goal.loop-k-preserved
loop-k-preserved c =
    let words = c.args.words.now in
    let all : length words ≡ 2 * (length words / 2) = omega (arith, c.requires.whole) in
    let walks = subst (Walks words) all c.requires.words.0 in
    let here : c.loop-k.k < 2 * (length words / 2) = omega (arith, all, c.loop-k-test.true) in
    let next : c.if-here-place.first ≡ cond (eqb c.place_of-here.result c.loop-k.place) c.loop-k.first c.loop-k.k =
    elim c.if-here-place.branch [ then-here-place w ↦ rw (eq-eqb _ _ w.if-here-place.true) w.first-is | else-here-place w ↦ rw (ne_eqb _ _ w.if-here-place.false) w.first-is ] in (
      begun_more walks c.loop-k.invariant.0 here c.place_of-here.ensures next,
      numbers_more (omega (arith, walks.few)) c.requires.words.1 c.loop-k.invariant.1 here (rw (c.edge_of.ensures, c.arrival_of.ensures)) (half-start walks c.loop-k.invariant.0 here c.place_of-here.ensures next),
    )
