-- Words of zeros mark no block.
use Rattle.block_service.proofs.marks.Bits.{unmarked}
use Rattle.block_service.proofs.marks.Marks.new.Goals as goal

pub returns : goal.returns
returns c = unmarked 1024
