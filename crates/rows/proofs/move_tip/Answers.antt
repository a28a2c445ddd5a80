-- `rows::move_tip` meets its contract. The copy is the run of stores of `moved_in`.
use Rattle.std.proofs.Common.{arith, ◌∙◌}
use Rattle.std.proofs.lemmas.Int.{to_z-of_z, ints}
use Rattle.laws.proofs.Sets.{copied-sets}
use Rattle.rows.specs.Layout.{moved_in}
use Rattle.rows.proofs.Writing.{moving}
use Rattle.rows.proofs.move_tip.Goals as goal

pub returns : goal.returns
unfolding moved_in
returns c =
    rw (← c.branch_at-b.ensures.0) (copied-sets _ _ (moving c.args.tip c.args.length) _ _ (c.copy_from_slice.ensures.after ∙ grind (arith, ints, to_z-of_z)) (omega arith) (omega arith))
