-- `Receiver::whole_header` meets its contract: by what its bytes say, and then in the body.
use Rattle.std.proofs.Common.{ap, ap₂, ◌∙◌, rules}
use Rattle.receiver.specs.Place.{phase_of}
use Rattle.receiver.specs.Receiver.{receiver_of, looked}
use Rattle.receiver.specs.Steps.{Taken, header_bytes}
use Rattle.receiver.proofs.receiver.Sound.{sound_fits}
use Rattle.receiver.proofs.receiver.Taken.{header_taken, section_taken}
use Rattle.receiver.proofs.receiver.Receiver.whole_header.Goals as goal
use Rattle.receiver.proofs.receiver.Receiver.whole_header.Goals.{After-look}

-- the header
headed : (c : After-look) → Taken (receiver_of c.args.self.now) c.args.bytes.now (receiver_of c.look.new.self) c.header_bytes-used.result
headed c =
    let r = receiver_of c.args.self.now in
    let says = c.read_partial-look.ensures in
    let used = c.header_bytes-used.ensures ∙ ap header_bytes says in
    let first = rw c.unwrap-header.ensures at c.first_chunk.ensures.cases in
    header_taken r c.args.bytes.now (sound_fits r c.requires.0) c.requires.1 (search rules) c.requires.2 first.same used (c.look.ensures ∙ ap₂ (looked r r.header) used says)

pub look-requires : goal.look-requires
look-requires c = (sound_fits (receiver_of c.args.self.now) c.requires.0).0

pub pass_body-requires : goal.pass_body-requires
pass_body-requires c = (sound_fits (receiver_of c.look.new.self) (headed (goal.at.pass_body-requires c).After-look).whole).0

pub overflow_add-result : goal.overflow_add-result
overflow_add-result c =
    let b = c.pass_body.ensures in
    let t = (section_taken (headed (goal.at.overflow_add-result c).After-look) (ap phase_of c.in-Body.is) c.if-used-bytes.true b.place b.used).within in
    search rules

pub returns-in-Body : goal.returns-in-Body
returns-in-Body c =
    let b = c.pass_body.ensures in section_taken (headed (goal.at.returns-in-Body c).After-look) (ap phase_of c.in-Body.is) c.if-used-bytes.true b.place b.used

pub returns-in_default : goal.returns-in_default
returns-in_default c = headed (goal.at.returns-in_default c).After-look

pub returns-in_default-2 : goal.returns-in_default-2
returns-in_default-2 c = headed (goal.at.returns-in_default-2 c).After-look
