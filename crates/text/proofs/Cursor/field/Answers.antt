-- `field` is a number and a byte, each read or refused: the definition at each of the three ways out.
use Rattle.std.proofs.Common.{rules}
use Rattle.std.proofs.lemmas.Int.{to_z-of_z}
use mir.Syntax.{w32}
use mir.Val.{SFits}
use Rattle.text.specs.Said.{and_then}
use Rattle.text.specs.Lines.{field_at}
use Rattle.text.proofs.Cursor.field.Goals as goal

pub returns-in_err-value-clause-says : goal.returns-in_err-value-clause-says
unfolding field_at and_then
returns-in_err-value-clause-says c = rw (c.from_residual.ensures, ← c.in_err-value.ensures.says)

pub returns-in_err-next-clause-says : goal.returns-in_err-next-clause-says
unfolding field_at and_then
returns-in_err-next-clause-says c =
    let next = rw c.in_ok-value.ensures.text at c.in_err-next.ensures.says in
    rw (c.from_residual-in_err-next.ensures, ← c.in_ok-value.ensures.says, ← next)

pub returns-clause-says : goal.returns-clause-says
unfolding field_at and_then
returns-clause-says c =
    let fits : SFits w32 c.in_ok-value.value = search rules in
    let next = rw c.in_ok-value.ensures.text at c.in_ok-next.ensures.says in
    rw (to_z-of_z w32 c.in_ok-value.value fits, ← c.in_ok-value.ensures.says, ← next)
