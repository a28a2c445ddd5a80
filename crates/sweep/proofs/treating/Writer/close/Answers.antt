-- `sweep::treating::Writer::close` meets its contract. By whether the journal has a record left.
use mathlib.Core.Path.{refl}
use lib.IntN.{pos}
use Rattle.std.specs.Prelude.{Ok}
use Rattle.sheet.proofs.Signed.{read_back}
use Rattle.sweep.specs.Slices.{progress}
use Rattle.sweep.proofs.Attaching.{not-full, close-full, close-written}
use Rattle.sweep.proofs.treating.Writer.close.Goals as goal

pub returns-then-is_full-clause-closed : goal.returns-then-is_full-clause-closed
returns-then-is_full-clause-closed c = let g = c.args.self.now in
    close-full g.rows.now g.journal.now (progress g.records g.counts.now (Ok tt)) c.args.level c.args.e (c.if-is_full.ensures.0 refl)

pub returns-clause-closed : goal.returns-clause-closed
returns-clause-closed c =
    let g = c.args.self.now in
    let z = read_back (pos c.args.e.falling) c.requires in
    close-written g.rows.now g.journal.now (progress g.records g.counts.now (Ok tt)) c.args.level c.args.e (not-full c.if-is_full.ensures) (rw z at c.write.ensures) refl
