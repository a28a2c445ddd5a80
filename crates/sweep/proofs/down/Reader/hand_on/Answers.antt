-- `sweep::down::Reader::hand_on` meets its contract. By the level of the record.
use Rattle.sheet.proofs.Signed.{read_back}
use Rattle.sweep.proofs.Handing.{read_answer, read-given}
use mathlib.Core.Path.{sym, ◌∙◌}
use Rattle.journal.specs.Layout.{record_at}
use Rattle.sweep.proofs.down.Reader.hand_on.Goals as goal

pub returns-then-level_at-eq0-clause-read : goal.returns-then-level_at-eq0-clause-read
returns-then-level_at-eq0-clause-read c = let g = c.args.self.now in
    let polygon = rw (c.name_at-name.ensures.0, c.polygon_of-polygon.ensures.0) at c.put.ensures in
    let given = read_back c.sequence_of-sequence.result c.sequence_of-sequence.type_inv in
    let offset = read_back c.offset_at-offset.result c.offset_at-offset.type_inv in
    let sequence = rw (c.name_at-name.ensures.0, c.natural_sum.ensures, given, offset, c.sequence_of-sequence.ensures, c.offset_at-offset.ensures) at c.put-then-level_at-eq0.ensures in
    read_answer g.rows.now g.polygons.now g.sequences.now g.count (record_at g.journal.now c.args.k) c.args.r
    (sym c.level_at.ensures ∙ c.if-level_at-eq0.true) polygon sequence

pub returns-else-level_at-eq0-clause-read : goal.returns-else-level_at-eq0-clause-read
returns-else-level_at-eq0-clause-read c = let g = c.args.self.now in
    let sum = read_back c.narrow_sum.result c.narrow_sum.type_inv in
    let given = read_back c.sequence_of-sequence.result c.sequence_of-sequence.type_inv in
    let offset = read_back c.offset_at-offset.result c.offset_at-offset.type_inv in
    let value = rw (sum, c.narrow_sum.ensures, given, offset, c.sequence_of-sequence.ensures, c.offset_at-offset.ensures) at c.give.ensures in
    read-given g.rows.now g.polygons.now g.sequences.now g.count (record_at g.journal.now c.args.k) c.args.r
    (λ e. c.if-level_at-eq0.false (c.level_at.ensures ∙ e)) (rw (c.name_at-name.ensures.0, c.polygon_of-polygon.ensures.0) at value)
