-- `Numbers::has_gap` meets its contract: the sequence number before is missing, or the polygon before is.
use Rattle.sheet.specs.TurnList.{number_lists}
use Rattle.turns.proofs.Gaps.{gap-by-sequence, gap-by-polygon}
use Rattle.turns.proofs.numbers.Numbers.has_gap.Goals as goal

pub returns-then-lacks_sequence : goal.returns-then-lacks_sequence
unfolding number_lists
returns-then-lacks_sequence c = rw c.if-lacks_sequence.true (gap-by-sequence c.requires.keys _ (rw c.requires.long at c.lacks_sequence.ensures) c.if-lacks_sequence.true)

pub returns-else-lacks_sequence : goal.returns-else-lacks_sequence
unfolding number_lists
returns-else-lacks_sequence c = gap-by-polygon c.requires.keys _ (rw c.requires.long at c.lacks_sequence.ensures) c.if-lacks_sequence.false (rw c.requires.long at c.lacks_polygon.ensures)
