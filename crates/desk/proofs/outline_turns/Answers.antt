-- `outline_turns` meets its contract: what `turn_list` ensures, its answer as plain numbers.
use mathlib.Core.Path.{ap, ◌∙◌, subst}
use Rattle.sheet.specs.TurnList.{TurnsAfter}
use Rattle.desk.specs.Exported.{turned_from}
use Rattle.desk.proofs.Accepting.{by-numbers-exactly}
use Rattle.desk.proofs.outline_turns.Goals as goal

pub returns : goal.returns
returns c = let a = c.args in
    record {
      answer = c.from.ensures ∙ ap turned_from c.turn_list.ensures.answer;
      exactly = by-numbers-exactly c.turn_list.ensures.exactly c.from.ensures;
      turns = subst (λ x. TurnsAfter a.polygons.now a.sequences.now x a.turns.now c.turn_list.new.turns) c.turn_list.ensures.answer c.turn_list.ensures.turns;
    }
