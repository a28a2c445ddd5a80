-- `Edge::at` meets its contract: five numbers of the slice, each read back as it stands.
use Rattle.sheet.specs.Edges.{edge_at}
use Rattle.sheet.proofs.Signed.{read_back}
use Rattle.sheet.proofs.Edge.at.Goals as goal

pub returns : goal.returns
unfolding edge_at
returns c = rw (
  read_back _ c.tail-2-1.given,
  read_back _ c.tail-1.given,
  read_back _ c.head-2-1.given,
  read_back _ c.head-1.given,
  read_back _ c.film-1.given,
)
