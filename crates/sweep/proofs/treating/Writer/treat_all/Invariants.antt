-- `sweep::treating::Writer::treat_all` meets its contract. The loop's invariant: the slices, the progress and the last edge are the steps' sweep of the edges so far, and the index is good.
use Rattle.sweep.specs.Treated.{slices, SameLent}
use Rattle.sweep.proofs.Sweeping.{SweptTo}
use Rattle.sweep.proofs.treating.Writer.treat_all.Given as goal

abbrev pub invariant-loop-i : goal.invariant-loop-i
invariant-loop-i l = SameLent l.initial.self l.self × SweptTo (slices l.initial.self) l.list.edges.now l.list.numbers.now l.list.count (slices l.self) l.edge l.i
