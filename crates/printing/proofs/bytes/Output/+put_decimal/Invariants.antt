-- The measure of `put_decimal`, which calls itself: the number.
use Rattle.printing.proofs.bytes.Output.+put_decimal.Given as goal

abbrev pub decreases-put_decimal : goal.decreases-put_decimal
decreases-put_decimal l = l.n
