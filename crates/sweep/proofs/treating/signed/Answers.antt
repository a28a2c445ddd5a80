-- `sweep::treating::signed` meets its contract. By the side: the number, or 0 minus it.
use Rattle.sweep.proofs.Attaching.{plus, minus-fits, minus}
use Rattle.sweep.proofs.treating.signed.Goals as goal

pub overflow_sub-result : goal.overflow_sub-result
overflow_sub-result c = minus-fits c.args.n c.requires

pub returns-in-Rising : goal.returns-in-Rising
returns-in-Rising c = rw c.in-Rising.is (plus c.args.n c.requires)

pub returns-in-Falling : goal.returns-in-Falling
returns-in-Falling c = rw c.in-Falling.is (minus c.args.n c.requires)
