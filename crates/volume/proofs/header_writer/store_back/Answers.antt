-- `volume::header_writer::store_back` meets its contract: three stores in a row.
use Rattle.std.proofs.Common.{◌∙◌}
use Rattle.volume.specs.HeaderWriter.{revision_of, offset_of}
use Rattle.volume.proofs.header_writer.Stores.{back_stored}
use Rattle.volume.proofs.header_writer.store_back.Goals as goal

pub returns : goal.returns
returns c =
    let a = c.args in
    let offset = c.from.ensures ∙ c.ext_header_offset.ensures in
    let revision = c.from-2.ensures ∙ c.revision.ensures in
    back_stored a.room.now (revision_of a.edition) (offset_of a.edition) _ _ _ (rw offset at c.store.ensures) c.store-2.ensures (rw revision at c.store-3.ensures)
