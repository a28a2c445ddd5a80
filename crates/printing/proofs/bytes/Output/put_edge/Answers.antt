-- `put_edge` puts the line word by word.
use Rattle.std.proofs.Common.{rules}
use Rattle.printing.proofs.LinesLaid.{edge-put}
use Rattle.printing.proofs.bytes.Output.put_edge.Goals as goal

pub returns : goal.returns
returns c = (edge-put _ _ _ c.put_number.ensures.0 c.put_number-2.ensures.0 c.put_number-3.ensures.0, search rules)
