-- `with_sign` is the number with its sign, in 32 bits.
use Rattle.text.proofs.Signs.{unchanged, negated}
use Rattle.text.specs.Numbers.{with_sign}
use Rattle.text.proofs.with_sign.Goals as goal

pub returns-then-minus : goal.returns-then-minus
unfolding with_sign
returns-then-minus c = rw (negated c.args.value c.requires, c.if-minus.true)

pub returns-else-minus : goal.returns-else-minus
unfolding with_sign
returns-else-minus c = rw (unchanged c.args.value c.requires, c.if-minus.false)
