-- `sweep::treating::Writer::find` meets its contract: the search by the slot of the edge's place.
use Rattle.sweep.specs.Treated.{slices}
use Rattle.sweep.proofs.Chaining.{found-by-slot}
use Rattle.sweep.proofs.treating.Writer.find.Goals as goal

pub returns : goal.returns
returns c = found-by-slot (slices c.args.self.now) c.args.level c.args.side c.args.e (rw c.bottom_number.ensures at c.slot-slot.ensures) (rw c.bottom.ensures at c.find.ensures)
