-- `is_unended` looks at the last byte, where there is one.
use Rattle.std.proofs.Common.{arith}
use Rattle.std.proofs.lemmas.Grind.{common_steps}
use Rattle.std.proofs.lemmas.Option.{gets}
use Rattle.text.specs.Numbers.{byte_at}
use Rattle.text.specs.Texts.{newline_at, unended}
use Rattle.text.proofs.is_unended.Goals as goal

pub returns : goal.returns
unfolding unended newline_at byte_at
returns c = grind (arith, common_steps, gets)
