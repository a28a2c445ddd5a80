-- `Outlines::position_of` meets its contract: k is compared with the count of each position.
use Rattle.std.proofs.Common.{rules}
use lib.Dec.{ltb}
use Rattle.laws.proofs.Found.{first-found}
use Rattle.cutter.specs.Position.{up_to_cut}
use Rattle.cutter.proofs.outlines.Outlines.position_of.Goals as goal

pub returns : goal.returns
returns c = let s = c.args.self.now in first-found (λ i. ltb c.args.k (up_to_cut s.polygons.now s.turns.now i)) _ _ _ _ c.find.ensures.ran (λ k b q l. search rules)
