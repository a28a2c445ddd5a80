-- `Rising::last_polygon` meets its contract. A key has 64 bits, so that its polygon has 32.
use Rattle.std.proofs.Common.{arith}
use Rattle.turns.proofs.Accepting.{last_none, last_some}
use Rattle.turns.proofs.rising.Rising.last_polygon.Goals as goal

pub returns-in-Some : goal.returns-in-Some
returns-in-Some c = let last = c.in-Some.ensures.item in last_some _ _ last.3.0 (last.3.1 0)

pub returns-in-None : goal.returns-in-None
returns-in-None c = last_none _ _ (omega (arith, c.in-None.ensures.item.3))
