-- `value_of` is the value of the digits passed, at every step of the loop. They are digits and at most seven, so nothing wraps.
use Rattle.std.proofs.Common.{arith, refl}
use Rattle.text.specs.Numbers.{value_at}
use Rattle.text.proofs.Numerals.{digit-is, value-grown, list-small}
use Rattle.text.proofs.value_of.Goals as goal

pub loop-digit-init : goal.loop-digit-init
unfolding value_at
loop-digit-init c = refl

pub overflow_mul-value : goal.overflow_mul-value
overflow_mul-value c = omega (arith, list-small c.args.digits.now c.requires.digits c.loop-digit.digit-index (omega arith) (omega arith), c.loop-digit.invariant)

pub overflow_sub-digit : goal.overflow_sub-digit
overflow_sub-digit c = (digit-is c.args.digits.now c.requires.digits c.loop-digit.digit-index (omega arith)).0

pub overflow_add-value : goal.overflow_add-value
overflow_add-value c =
    omega (
      arith,
      list-small c.args.digits.now c.requires.digits c.loop-digit.digit-index (omega arith) (omega arith),
      digit-is c.args.digits.now c.requires.digits c.loop-digit.digit-index (omega arith),
      c.loop-digit.invariant,
      c.from.ensures,
    )

pub loop-digit-preserved : goal.loop-digit-preserved
loop-digit-preserved c = omega (arith, value-grown c.args.digits.now c.requires.digits c.loop-digit.digit-index (omega arith), c.loop-digit.invariant, c.from.ensures)
