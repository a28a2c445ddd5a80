-- `sweep::down::natural_sum` meets its contract. The sum in 64 bits, and its sign.
use mathlib.Core.Path.{◌∙◌}
use Rattle.sheet.proofs.Signed.{read_back}
use Rattle.sweep.proofs.Sums.{natural-or, wide, in64}
use Rattle.sweep.proofs.down.natural_sum.Goals as goal

pub returns : goal.returns
returns c =
    let a = read_back c.args.a c.ranges.a.sfits in
    let b = read_back c.args.b c.ranges.b.sfits in
    let wa = wide c.args.a c.ranges.a in
    let wb = wide c.args.b c.ranges.b in
    let o = rw (c.from.ensures, c.from-2.ensures, a, b, wa, wb, in64 c.args.a c.args.b c.ranges.a c.ranges.b) at c.try_from.ensures in
    c.unwrap_or.ensures ∙ natural-or c.args.a c.args.b c.ranges.a c.ranges.b c.try_from.result o
