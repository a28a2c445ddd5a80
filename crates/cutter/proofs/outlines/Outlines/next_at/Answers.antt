-- `Outlines::next_at` meets its contract: the edge behind is there, and so are as many positions before as the sequence number says.
use native.Mathlib.Omega.{arith}
use Prim.Native.Nat.{◌+◌}
use Rattle.cutter.proofs.Rounds.{next-behind, next-back, next-back-last}
use Rattle.cutter.proofs.outlines.Outlines.next_at.Goals.{then-i-self+else-self-behind-ne0, else-i-self}
use Rattle.cutter.proofs.outlines.Outlines.next_at.Goals as goal

pub returns-then-self-behind-ne0 : goal.returns-then-self-behind-ne0
returns-then-self-behind-ne0 c = let s = c.args.self.now in
    (next-behind s.sequences.now s.turns.now c.args.i (c.args.i + 1) (omega arith) c.if-i-self.true c.if-self-behind-ne0.true, c.if-i-self.true)

pub returns : goal.returns
returns c = let s = c.args.self.now in (
  elim c.if-i-self.branch [
    | then-i-self+else-self-behind-ne0 w ↦ next-back s.sequences.now s.turns.now c.args.i (c.args.i + 1) (omega arith) w.if-self-behind-ne0.false
    | else-i-self w ↦ next-back-last s.sequences.now s.turns.now c.args.i (omega (arith, w.if-i-self.false))
  ],
  omega (arith, c.requires),
)
