-- `byte` is the byte at the place: past the end none, which is 256.
use Rattle.std.proofs.Common.{arith}
use Rattle.std.proofs.lemmas.Grind.{common_steps}
use Rattle.std.proofs.lemmas.Option.{gets}
use Rattle.text.specs.Numbers.{byte_at}
use Rattle.text.proofs.Cursor.byte.Goals as goal

pub returns : goal.returns
unfolding byte_at
returns c = grind (arith, common_steps, gets)
