-- `outline_assemble` meets its contract: the promise of `assemble`, its answer as plain numbers.
use Rattle.numbering.specs.Outcome.{left_as}
use Rattle.desk.proofs.Accepting.{zero-is-accepted}
use Rattle.desk.proofs.outline_assemble.Goals as goal

pub returns : goal.returns
returns c = record {
  inner = _;
  promised = c.assemble.ensures;
  accepted = zero-is-accepted c.from.ensures;
  same = λ i. left_as (c.from.ensures i) c.assemble.new.polygons c.assemble.new.sequences c.assemble.new.journal c.assemble.new.rows;
}
