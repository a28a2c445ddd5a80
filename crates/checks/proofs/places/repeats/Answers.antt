-- `checks::places::repeats` meets its contract: keys are compared.
use Rattle.checks.proofs.Visiting.{repeats-told}
use Rattle.checks.proofs.places.repeats.Goals as goal

pub returns : goal.returns
returns c = rw (c.key_of.ensures, c.key_of-2.ensures) (repeats-told c.args.words.now c.args.k c.requires.0)
