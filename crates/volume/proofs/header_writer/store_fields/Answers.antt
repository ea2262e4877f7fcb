-- `volume::header_writer::store_fields` meets its contract: eight runs of stores in a row are the header's first 52 bytes.
use Rattle.std.proofs.Common.{rules}
use Rattle.volume.proofs.header_writer.Stores.{fields_stored}
use Rattle.volume.proofs.header_writer.store_fields.Goals as goal

pub returns : goal.returns
returns c =
    let a = c.args in
    let signed = rw c.from.ensures at c.store-4.ensures in
    let flagged = rw c.from-2.ensures at c.store-5.ensures in
    fields_stored a.room.now a.guid a.len a.attributes a.header (search rules) _ _ _ _ _ _ _ _
    c.store.ensures
    c.store-2.ensures
    c.store_bytes.ensures
    c.store-3.ensures
    signed
    flagged
    c.store-6.ensures
    c.store-7.ensures
