-- `Turns::compare` meets its contract: each way out is a law of what is tried. In the room stands the right turn list once the numbers are accepted.
use mathlib.Core.Path.{◌≡◌, refl, sym, ap, ◌∙◌}
use native.Mathlib.Omega.{arith}
use lib.ListN.{length}
use Rattle.std.proofs.lemmas.Result.{err_from_is_err_and}
use Rattle.sheet.specs.TurnList.{turned}
use Rattle.cutter.proofs.TurnsTried.{on-numbers, on-different, on-right}
use Rattle.cutter.proofs.turning.Turns.compare.Goals as goal

pub returns-in_err-turn_list : goal.returns-in_err-turn_list
returns-in_err-turn_list c =
    let s = c.args.self.now in
    let size : length c.args.room.now ≡ length s.turns.now = omega arith in
    let p = err_from_is_err_and c.from_residual.result c.from_residual.ensures.1 in
    rw (p.1, p.2) (on-numbers _ _ _ _ refl s.sequences_long s.turns_long (sym c.in_err-turn_list.was ∙ c.turn_list.ensures.answer ∙ ap (turned _ _) size))

pub returns-in-Some : goal.returns-in-Some
returns-in-Some c =
    let s = c.args.self.now in
    let size : length c.args.room.now ≡ length s.turns.now = omega arith in
    let told = sym c.in_ok-turn_list.was ∙ c.turn_list.ensures.answer ∙ ap (turned _ _) size in
    on-different _ _ _ _ refl s.sequences_long s.turns_long _ told c.in_ok-turn_list.ensures.turns c.in-Some.ensures

pub returns-in-None : goal.returns-in-None
returns-in-None c =
    let s = c.args.self.now in
    let size : length c.args.room.now ≡ length s.turns.now = omega arith in
    let told = sym c.in_ok-turn_list.was ∙ c.turn_list.ensures.answer ∙ ap (turned _ _) size in
    on-right _ _ _ _ refl s.sequences_long s.turns_long s.few _ told c.in_ok-turn_list.ensures.turns c.in-None.ensures
