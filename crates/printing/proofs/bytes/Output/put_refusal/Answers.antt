-- `put_refusal` puts the line word by word.
use Rattle.printing.proofs.LinesLaid.{refused-put}
use Rattle.printing.proofs.bytes.Output.put_refusal.Goals as goal

pub returns : goal.returns
returns c = refused-put _ _ c.put_word.ensures c.put_number.ensures.0 c.put_number-2.ensures.0
