-- `Numbers::place` meets its contract: an edge's key stands among the keys.
use Rattle.std.proofs.Common.{◌≡◌, arith}
use Rattle.sheet.specs.TurnList.{number_lists}
use Rattle.turns.specs.Numbered.{lists_of}
use Rattle.turns.proofs.Places.{place_at, place-below}
use Rattle.turns.proofs.numbers.Numbers.place.Goals as goal

pub returns : goal.returns
unfolding number_lists
returns c =
    let place : c.place_from.result ≡ place_at (lists_of c.args.self.now) c.args.keys.now.words.now c.args.e = cc in
    record { place = place; within = omega (arith, place, place-below c.requires.keys c.args.e c.requires.edge) }
