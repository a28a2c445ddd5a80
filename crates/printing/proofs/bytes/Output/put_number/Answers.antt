-- `put_number` puts the digits and then the byte after them.
use Rattle.std.proofs.Common.{arith}
use Rattle.printing.proofs.Laying.{put_then}
use Rattle.printing.proofs.bytes.Output.put_number.Goals as goal

pub returns : goal.returns
returns c = (put_then c.put_decimal.ensures.0 c.put.ensures, omega (arith, c.put_decimal.ensures.1, c.put.ensures.laid.place))
