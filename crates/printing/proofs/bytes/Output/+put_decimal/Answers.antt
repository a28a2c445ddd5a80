-- `put_decimal`, which calls itself, puts the digits of the tenth and then the last digit. The measure is the number.
use Rattle.std.proofs.Common.{rules}
use Rattle.printing.proofs.Spelling.{only-digit-put, last-digit-put}
use Rattle.printing.proofs.bytes.Output.+put_decimal.Goals as goal

pub returns-then-n-lt10 : goal.returns-then-n-lt10
returns-then-n-lt10 t c = only-digit-put c.args.n (search rules) c.if-n-lt10.true c.put.ensures

pub returns : goal.returns
returns t c = last-digit-put c.args.n (search rules) c.if-n-lt10.false c.put_decimal.ensures.0 c.put-2.ensures
