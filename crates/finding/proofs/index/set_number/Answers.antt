-- `finding::index::set_number` meets its contract. By whether the index has the number.
use mathlib.Core.Path.{sym}
use native.Mathlib.Omega.{arith}
use lib.Seq.{set_out}
use Rattle.finding.specs.Index.{tip_at, numbered_in}
use Rattle.finding.proofs.index.set_number.Goals as goal

pub returns-then-i-index : goal.returns-then-i-index
unfolding numbered_in
returns-then-i-index c = rw c.tip_at-i.ensures

pub returns-else-i-index : goal.returns-else-i-index
unfolding numbered_in
returns-else-i-index c = let a = c.args in
    sym (set_out a.index.now (tip_at a.r a.side) a.number (omega (arith, c.tip_at-i.ensures, c.if-i-index.false)))
