-- `value_of` is the value of the digits passed, at every step of the loop. They are digits and at most seven, so nothing wraps.
use Rattle.std.proofs.Common.{◌≡◌}
use Rattle.text.specs.Numbers.{value_at}
use Rattle.text.proofs.value_of.Given as goal

abbrev pub invariant-loop-digit : goal.invariant-loop-digit
invariant-loop-digit l = l.value ≡ value_at l.digits 0 l.digit-index
