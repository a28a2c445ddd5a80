-- `sweep::down::Reader::read_records` meets its contract. The loop's invariant: the records that are left, read on from here, give what all of them give from the start. One record gives one polygon at most.
use Prim.Native.Nat.{◌+◌, ◌≤◌}
use mathlib.Core.Path.{◌≡◌}
use Rattle.steps.specs.SweepDown.{sweep_down}
use Rattle.journal.specs.Layout.{record_slice}
use Rattle.sweep.specs.Lookup.{tables}
use Rattle.sweep.specs.Reading.{SameLent, read_by}
use Rattle.sweep.proofs.down.Reader.read_records.Given as goal

abbrev pub invariant-loop-k : goal.invariant-loop-k
invariant-loop-k l = (l.self.count + l.k ≤ l.records)
    × SameLent l.initial.self l.self
    × (sweep_down tables record_slice l.self.journal.now l.k (read_by l.self) ≡ sweep_down tables record_slice l.initial.self.journal.now l.records (read_by l.initial.self))
