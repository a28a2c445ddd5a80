-- `sweep::treating::Writer::meeting` meets its contract. Where the place is apart nothing is looked for.
use Rattle.sweep.specs.Treated.{slices}
use Rattle.sweep.proofs.Chaining.{met-apart, met-found}
use Rattle.sweep.proofs.treating.Writer.meeting.Goals as goal

pub returns-then-e : goal.returns-then-e
returns-then-e c = met-apart (slices c.args.self.now) c.args.level c.args.side c.args.e c.if-e.true

pub returns : goal.returns
returns c = met-found (slices c.args.self.now) c.args.level c.args.side c.args.e c.if-e.false (rw c.other.ensures at c.find.ensures)
