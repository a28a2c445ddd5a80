-- `sweep::treating::Writer::attach` meets its contract. Three ways out, each by its law of Attaching; only the last one moves a tip.
use native.Mathlib.Omega.{arith}
use mathlib.Core.Path.{refl}
use Prim.Native.Nat.{◌+◌, ◌≤◌}
use Rattle.std.specs.Prelude.{Ok}
use Rattle.sheet.proofs.Signed.{read_back}
use Rattle.steps.specs.Rows.{other_side, on}
use Rattle.steps.specs.SweepUp.{signed, most_length}
use Rattle.sweep.specs.Slices.{edge_of, progress}
use Rattle.sweep.specs.Treated.{slices}
use Rattle.sweep.proofs.Attaching.{not-full, attach-full, attach-long, attach-done, signed-small, other-within}
use Rattle.sweep.proofs.Beside.{attached-not, attached-moved}
use Rattle.sweep.proofs.treating.Writer.attach.Goals as goal

pub returns-then-is_full-clause-attached : goal.returns-then-is_full-clause-attached
returns-then-is_full-clause-attached c = let l = slices c.args.self.now in
    attached-not l c.args.level c.args.side c.args.e c.args.r
    (attach-full l.rows l.journal (progress l.records l.counts (Ok tt)) c.args.level c.args.e c.args.side c.args.r (c.if-is_full.ensures.0 refl))

pub returns-then-longer-gt-MOST_LENGTH-clause-attached : goal.returns-then-longer-gt-MOST_LENGTH-clause-attached
returns-then-longer-gt-MOST_LENGTH-clause-attached c = let l = slices c.args.self.now in
    attached-not l c.args.level c.args.side c.args.e c.args.r
    (attach-long l.rows l.journal (progress l.records l.counts (Ok tt)) c.args.level c.args.e c.args.side c.args.r c.length_of-before.result c.length_of-before.ensures.0 (omega (arith, c.if-longer-gt-MOST_LENGTH.true, c.from.ensures, c.from-2.ensures, c.from-3.ensures)))

pub returns-clause-attached : goal.returns-clause-attached
returns-clause-attached c =
    let l = slices c.args.self.now in
    let e = c.args.e in
    let m = c.length_of-before.result + on (other_side c.args.side) (edge_of e).length in
    let long : c.length_of-before.result + e.falling + e.rising ≤ most_length = omega (arith, c.if-longer-gt-MOST_LENGTH.false, c.from.ensures, c.from-2.ensures, c.from-3.ensures) in
    let moved = rw (c.from.ensures, c.from-2.ensures, c.from-3.ensures) at c.move_tip.ensures.rows_after in
    let small = signed-small c.args.side m (omega (arith, long, other-within c.args.side e)) in
    attached-moved l c.args.level c.args.side e c.args.r c.requires (c.length_of-before.result + e.falling + e.rising)
    (attach-done l.rows l.journal (progress l.records l.counts (Ok tt)) c.args.level e c.args.side c.args.r c.length_of-before.result c.length_of-before.ensures.0 (not-full c.if-is_full.ensures) long
    (rw (c.signed-offset.ensures, c.length.ensures.0, c.other.ensures, read_back (signed c.args.side m) small) at c.write.ensures)
    moved refl)
    moved c.move_tip.ensures.index_after refl
