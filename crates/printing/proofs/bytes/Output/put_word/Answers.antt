-- `put_word` has put the bytes passed, at every step of the loop.
use Rattle.std.proofs.Common.{arith, rules}
use Rattle.std.proofs.Math.ListN.{length-take}
use Rattle.printing.proofs.Laying.{none-put, one-more-put, front-put}
use Rattle.printing.proofs.bytes.Output.put_word.Goals as goal

pub loop-byte-init : goal.loop-byte-init
loop-byte-init c = none-put _

pub put-requires : goal.put-requires
put-requires c = omega (arith, c.loop-byte.invariant.laid.place, length-take c.loop-byte.byte-index c.args.word.now)

pub loop-byte-preserved : goal.loop-byte-preserved
loop-byte-preserved c = one-more-put c.args.word.now c.loop-byte.byte-index (search rules) c.loop-byte.invariant c.put.ensures

pub returns : goal.returns
returns c = front-put c.args.word.now c.loop-byte.byte-index (search rules) c.loop-byte.invariant
