-- `assemble` meets its contract: of a numbering that is accepted the turn list is laid.
use Rattle.assembly.proofs.Assembling.{to-lay, when-laid}
use Rattle.assembly.proofs.assemble.Goals as goal

pub lay_turns-requires : goal.lay_turns-requires
lay_turns-requires c = let n = c.in_ok-numbered.numbered in to-lay c.number.ensures n.polygons n.peak n.records c.in_ok-numbered.was

pub returns : goal.returns
returns c = let n = c.in_ok-numbered.numbered in when-laid c.number.ensures n.polygons n.peak n.records c.in_ok-numbered.was c.lay_turns.ensures
