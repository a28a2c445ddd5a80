-- `alternate` meets its contract, a law for each way out.
use mir.Syntax.{w64}
use mir.ValLaws.{to_z-of_z}
use Rattle.corner.proofs.SameTurn.{by-signums, no-turn}
use Rattle.corner.proofs.alternate.Goals as goal

pub returns-then-low-ne0 : goal.returns-then-low-ne0
returns-then-low-ne0 c =
    let l = rw (to_z-of_z w64 c.args.low c.ranges.low) at c.signum.ensures.value in
    let h = rw (to_z-of_z w64 c.args.high c.ranges.high) at c.signum-then-low-ne0.ensures.value in
    by-signums c.args.low c.args.high l h c.if-low-ne0.true

pub returns-else-low-ne0 : goal.returns-else-low-ne0
returns-else-low-ne0 c = rw c.if-low-ne0.false (no-turn c.args.low c.args.high c.ranges.low c.if-low-ne0.false)
