-- `fv::packed::unpack` meets its contract, field by field.
use Rattle.std.proofs.Common.{◌∙◌}
use Rattle.volume.specs.State.{state_with}
use Rattle.fv.specs.Packed.{unpacked}
use Rattle.fv.proofs.packed.unpack.Goals as goal

pub returns : goal.returns
unfolding unpacked state_with
returns c =
    λ i. record {
      guid = c.guid_in.ensures i;
      length = c.u64_at.ensures i;
      base = c.u64_at-2.ensures i;
      attributes = c.u32_at.ensures i;
      edition = c.u32_at-2.ensures i;
      protected = (c.from.ensures ∙ c.u32_at-3.ensures) i;
      entries = c.u32_at-4.ensures i;
      map = c.words_in.ensures i;
    }
