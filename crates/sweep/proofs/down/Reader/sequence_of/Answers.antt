-- `sweep::down::Reader::sequence_of` meets its contract. The row's second number.
use Rattle.sheet.proofs.Signed.{read_back}
use Rattle.sweep.specs.Lookup.{numbers_in}
use mathlib.Core.Path.{◌∙◌}
use Rattle.sweep.proofs.down.Reader.sequence_of.Goals as goal

pub returns : goal.returns
unfolding numbers_in
returns c = read_back c.number_at.result c.number_at.type_inv ∙ c.number_at.ensures
