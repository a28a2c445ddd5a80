-- `journal::write` meets its contract. The copy is the run of stores of `written_in`.
use Rattle.std.proofs.Common.{arith, ◌∙◌}
use Rattle.std.proofs.lemmas.Int.{to_z-of_z}
use Rattle.laws.proofs.Sets.{copied-sets}
use Rattle.journal.specs.Layout.{chain_of, written_in}
use Rattle.journal.proofs.Writing.{numbers}
use Rattle.journal.proofs.write.Goals as goal

pub returns : goal.returns
unfolding written_in
returns c = let a = c.args in
    copied-sets _ _ (numbers (record { level = a.level; name = a.name; chain = chain_of a.chain; offset = a.offset })) _ _ (c.copy_from_slice.ensures.after ∙ grind (arith, to_z-of_z)) (omega arith) (omega arith)
