-- `sweep::down::Reader::read_records` meets its contract. One record more is read; in the end none is left.
use native.Mathlib.Omega.{arith}
use mathlib.Core.Path.{◌≡◌, sym, ◌∙◌}
use Rattle.sweep.proofs.Handing.{down-more, down-none, lent-on}
use Rattle.sweep.proofs.down.Reader.read_records.Goals as goal

pub loop-k-preserved : goal.loop-k-preserved
loop-k-preserved c = let R = c.read_record.ensures in (
  omega (arith, c.loop-k.invariant.0, R.count),
  lent-on c.loop-k.invariant.1 R.lent,
  rw R.lent.journal (down-more c.loop-k.self.journal.now c.loop-k.k c.loop-k-test.true _ _ R.read) ∙ c.loop-k.invariant.2,
)

pub returns-clause-read : goal.returns-clause-read
returns-clause-read c = let z : c.loop-k.k ≡ 0 = omega arith in
    sym (down-none c.loop-k.self.journal.now _) ∙ (rw z at c.loop-k.invariant.2)
