-- `outline_roll_feeder` meets its contract: what `instruction` ensures, its answer as plain numbers.
use Rattle.desk.proofs.Telling.{told}
use Rattle.desk.proofs.outline_roll_feeder.Goals as goal

pub returns : goal.returns
returns c = told c.instruction.ensures c.from.ensures
