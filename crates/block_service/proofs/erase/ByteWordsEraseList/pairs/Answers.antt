-- A list of bytes has a word for each eight of them.
use native.Mathlib.Omega.{arith}
use Rattle.block_service.proofs.erase.ByteLists.{word_number}
use Rattle.block_service.proofs.erase.ByteWordsEraseList.pairs.Goals as goal

pub returns : goal.returns
returns c = omega (arith, word_number c.args.self.0.now)
