-- `sweep::down::narrow_sum` meets its contract. Whether 32 bits hold the sum.
use mathlib.Core.Path.{◌∙◌}
use Rattle.sheet.proofs.Signed.{read_back}
use Rattle.sweep.proofs.Sums.{narrowed-or}
use Rattle.sweep.proofs.down.narrow_sum.Goals as goal

pub returns : goal.returns
returns c = read_back _ c.unwrap_or.type_inv ∙ c.unwrap_or.ensures ∙ narrowed-or _ c.checked_add.result (rw (read_back _ c.ranges.a.sfits, read_back _ c.ranges.b.sfits) at c.checked_add.ensures)
