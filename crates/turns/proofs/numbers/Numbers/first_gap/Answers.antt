-- `Numbers::first_gap` meets its contract: keys that leave no number out have no gap; otherwise `has_gap` is asked of each edge.
use Rattle.std.proofs.Common.{sym, arith, rules}
use Rattle.laws.proofs.Found.{first-found}
use Rattle.laws.proofs.Searching.{found_none}
use Rattle.sheet.specs.TurnList.{number_lists, gap}
use Rattle.turns.specs.Numbered.{lists_of}
use Rattle.turns.proofs.Whole.{whole-gap}
use Rattle.turns.proofs.numbers.Numbers.first_gap.Goals as goal

pub returns-then-are_whole : goal.returns-then-are_whole
unfolding number_lists
returns-then-are_whole c = sym (found_none (gap (lists_of c.args.self.now)) (λ k l. whole-gap c.requires.keys (rw c.requires.long at (c.are_whole.ensures.0 c.if-are_whole.true)) k l) (omega arith))

pub returns : goal.returns
returns c = first-found (gap (lists_of c.args.self.now)) _ _ _ _ c.find.ensures.ran (λ k b q l. search rules)
