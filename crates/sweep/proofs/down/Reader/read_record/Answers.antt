-- `sweep::down::Reader::read_record` meets its contract. By the record's chain.
use Rattle.sheet.proofs.Signed.{read_back}
use Rattle.sweep.proofs.Handing.{read-closing}
use Rattle.journal.specs.Layout.{record_at}
use Rattle.sweep.proofs.down.Reader.read_record.Goals as goal

pub returns-in_default-clause-read : goal.returns-in_default-clause-read
returns-in_default-clause-read c = let g = c.args.self.now in
    let given = rw (c.name_at-name.ensures.0, read_back c.offset_at-offset.result c.offset_at-offset.type_inv, c.offset_at-offset.ensures) at c.give.ensures in
    read-closing g.rows.now g.polygons.now g.sequences.now g.count (record_at g.journal.now c.args.k)
    c.in_default.ensures.0 (rw c.offset_at-offset.ensures at c.offset_at-offset.type_inv) given
