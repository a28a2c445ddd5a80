-- `put_accepted` puts the first line and then the edges' lines.
use Rattle.printing.proofs.Laying.{put_then}
use Rattle.printing.proofs.bytes.Output.put_accepted.Goals as goal

pub returns : goal.returns
returns c = put_then c.put_counts.ensures.0 c.put_edge_lines.ensures
