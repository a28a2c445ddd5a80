-- `rows::open_row` meets its contract. The copy is the run of stores of `opened_in`.
use Rattle.std.proofs.Common.{arith, ◌∙◌}
use Rattle.std.proofs.lemmas.Int.{to_z-of_z, ints}
use Rattle.laws.proofs.Sets.{copied-sets}
use Rattle.rows.specs.Layout.{opened_in}
use Rattle.rows.proofs.Writing.{opening}
use Rattle.rows.proofs.open_row.Goals as goal

pub returns : goal.returns
unfolding opened_in
returns c = copied-sets _ _ (opening c.args.level c.args.tip) _ _ (c.copy_from_slice.ensures.after ∙ grind (arith, ints, to_z-of_z)) (omega arith) (omega arith)
