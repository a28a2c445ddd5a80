-- `put_numbered` prints the answer of the call: one law for each.
use Rattle.std.proofs.Common.{rules}
use Rattle.printing.proofs.Answered.{accepted-so, refused-so}
use Rattle.printing.proofs.put_numbered.Goals as goal

pub returns-in-Ok : goal.returns-in-Ok
returns-in-Ok c = accepted-so c.assemble.ensures.numbered.outcome_is _ c.in-Ok.is (search rules) c.put_accepted.ensures

pub returns-in-Err : goal.returns-in-Err
returns-in-Err c = refused-so c.assemble.ensures.numbered.outcome_is _ c.in-Err.is c.number.ensures c.place.ensures c.put_refusal.ensures
