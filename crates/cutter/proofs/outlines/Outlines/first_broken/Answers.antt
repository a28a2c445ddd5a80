-- `Outlines::first_broken` meets its contract: `head_not_tail` is asked of each position.
use Rattle.std.proofs.Common.{rules}
use Rattle.laws.proofs.Found.{first-found}
use Rattle.cutter.specs.Outlines.{head_not_tail}
use Rattle.cutter.proofs.outlines.Outlines.first_broken.Goals as goal

pub returns : goal.returns
returns c = let s = c.args.self.now in first-found (head_not_tail s.edges.now s.sequences.now s.turns.now) _ _ _ _ c.find.ensures.ran (λ k b q l. search rules)
