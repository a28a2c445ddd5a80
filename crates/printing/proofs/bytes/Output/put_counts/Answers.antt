-- `put_counts` puts the line word by word.
use Rattle.std.proofs.Common.{arith}
use Rattle.printing.proofs.LinesLaid.{accepted-put}
use Rattle.printing.proofs.bytes.Output.put_counts.Goals as goal

pub returns : goal.returns
returns c = (
  accepted-put c.args.numbered c.put_word.ensures c.put_number.ensures.0 c.put_number-2.ensures.0 c.put_number-3.ensures.0,
  omega (arith, c.put_word.ensures.laid.place),
)
