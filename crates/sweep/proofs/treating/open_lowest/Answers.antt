-- `sweep::treating::open_lowest` meets its contract: the row opened, and the law of Beside for what lies beside it.
use native.Mathlib.Omega.{arith}
use mathlib.Core.Path.{◌≡◌}
use lib.ListN.{get_or}
use Rattle.steps.specs.SweepUp as up
use Rattle.finding.specs.Free.{peak_in, taken_in}
use Rattle.finding.proofs.InUse.{taken-keeps}
use Rattle.sweep.specs.Slices.{edge_of, number_below}
use Rattle.sweep.proofs.Beside.{opened-beside}
use Rattle.sweep.proofs.treating.open_lowest.Goals as goal

pub returns-clause-opened : goal.returns-clause-opened
returns-clause-opened c =
    let g = c.args in
    let opened = rw c.bottom.ensures at c.open_row.ensures in
    let ei = rw (c.other.ensures, c.set_number-2.ensures, c.set_number.ensures, opened, c.bottom_number-number.ensures) at c.mark.ensures in
    let peak : get_or (taken_in g.counts.now g.r) 1 0 ≡ peak_in g.counts.now = taken-keeps g.counts.now g.r 1 (omega arith) in
    opened-beside g.rows.now g.index.now g.counts.now g.r g.level g.side (up.bottom g.side (edge_of g.e)) (number_below g.side g.e) c.requires.0 c.requires.2 opened ei
    (rw (c.max.ensures, c.take.ensures, peak))
