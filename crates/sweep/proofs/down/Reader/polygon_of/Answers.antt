-- `sweep::down::Reader::polygon_of` meets its contract. The row's first number.
use Rattle.sheet.proofs.Signed.{read_back}
use Rattle.sweep.specs.Lookup.{numbers_in}
use Rattle.sweep.proofs.down.Reader.polygon_of.Goals as goal

pub returns : goal.returns
unfolding numbers_in
returns c = rw (read_back _ c.number_at.type_inv, c.number_at.ensures) at c.natural.ensures
