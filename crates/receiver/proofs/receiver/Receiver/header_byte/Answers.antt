-- `Receiver::header_byte` meets its contract: by what the bytes say with this one.
use Rattle.std.proofs.Common.{◌∙◌}
use Rattle.receiver.specs.Receiver.{receiver_of}
use Rattle.receiver.proofs.receiver.Cases.{byte_more}
use Rattle.receiver.proofs.receiver.Receiver.header_byte.Goals as goal

pub returns : goal.returns
returns c = let a = c.args in c.look.ensures ∙ byte_more (receiver_of a.self.now) a.have a.byte c.read_partial-look.ensures
