-- `Point::rank` meets its contract: both shifted coordinates are small, so nothing runs over.
use Rattle.sheet.specs.Rank.{rank}
use Rattle.sheet.proofs.Signed.{read_back}
use Rattle.sheet.proofs.Point.rank.Goals as goal

pub returns : goal.returns
unfolding rank
returns c = rw (c.from.ensures, c.from-2.ensures, c.shifted.ensures, c.shifted-2.ensures, read_back c.args.self.y c.struct_told-1.given.0.1, read_back c.args.self.x c.struct_told-1.given.1.0.1)
