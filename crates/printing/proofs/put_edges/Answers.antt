-- `put_edges` lends zeros.
use Rattle.std.proofs.Common.{rules}
use Rattle.printing.proofs.Answered.{zeros-so}
use Rattle.printing.proofs.put_edges.Goals as goal

pub returns : goal.returns
returns c = zeros-so c.args.n c.args.edges.now (search rules) c.put_numbered.ensures
