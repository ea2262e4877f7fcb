-- `volume::header::test_bytes` meets its contract: the header's words lie in the bytes.
use Rattle.std.proofs.Common.{sym, ◌∙◌, length-take-le}
use Rattle.volume.proofs.header.Fields.{header_length-passed}
use Rattle.volume.proofs.header.test_bytes.Goals as goal

pub slice_bounds-word_sum-end : goal.slice_bounds-word_sum-end
slice_bounds-word_sum-end c =
    sym (length-take-le _ _ (header_length-passed _ _ (sym c.header_length_fault.ensures ∙ c.if-header_length_fault.false)).2)
