-- `Receiver::step` meets its contract, by what comes next.
use Rattle.std.proofs.Common.{ap, inl, inr, rules}
use Rattle.receiver.specs.Place.{Header, phase_of}
use Rattle.receiver.specs.Receiver.{Receiver, receiver_of}
use Rattle.receiver.proofs.receiver.Sound.{Fits, sound_fits}
use Rattle.receiver.proofs.receiver.Taken.{one_taken, body_taken, padding_taken, complete_taken, exceeded_taken, refused_taken}
use Rattle.receiver.proofs.receiver.Receiver.step.Goals as goal
use Rattle.receiver.proofs.receiver.Receiver.step.Goals.{Start}

-- the receiver at the start
abbrev start : Start → Receiver
start c = receiver_of c.args.self.now

fits : (c : Start) → Fits (start c).place
fits c = sound_fits (start c) c.requires.0

pub whole_header-requires : goal.whole_header-requires
whole_header-requires c = (c.requires.0, rw c.in-Header-eq0.is (ap Header (rw c.in-Header-eq0.is at c.in-Header-eq0.field-0-test)), search rules)

pub header_byte-requires : goal.header_byte-requires
header_byte-requires c = let f = fits (goal.at.header_byte-requires c).Start in (f.0, rw c.in-Header.is at f.1)

pub pass_body-requires : goal.pass_body-requires
pass_body-requires c = (fits (goal.at.pass_body-requires c).Start).0

pub pass_padding-requires : goal.pass_padding-requires
pass_padding-requires c = (fits (goal.at.pass_padding-requires c).Start).0

pub returns-in-Header : goal.returns-in-Header
returns-in-Header c =
    let here = (goal.at.returns-in-Header c).Start in rw c.header_byte.ensures (one_taken (start here) _ (fits here) _ (ap phase_of c.in-Header.is) c.requires.1)

pub returns-in-Body : goal.returns-in-Body
returns-in-Body c =
    let here = (goal.at.returns-in-Body c).Start in
    body_taken (start here) _ (fits here) (ap phase_of c.in-Body.is) c.pass_body.ensures.place c.pass_body.ensures.used c.requires.1

pub returns-in-Padding : goal.returns-in-Padding
returns-in-Padding c =
    let here = (goal.at.returns-in-Padding c).Start in padding_taken (start here) _ (fits here) (ap phase_of c.in-Padding.is) c.pass_padding.ensures c.requires.1

pub returns-in-Complete : goal.returns-in-Complete
returns-in-Complete c =
    let here = (goal.at.returns-in-Complete c).Start in complete_taken (start here) _ (fits here) (ap phase_of c.in-Complete.is) c.requires.1

pub returns-in-Exceeded : goal.returns-in-Exceeded
returns-in-Exceeded c =
    let here = (goal.at.returns-in-Exceeded c).Start in
    elim c.in-Exceeded.is [
      | inl e ↦ exceeded_taken (start here) _ (fits here) (ap phase_of e) c.requires.1
      | inr e ↦ refused_taken (start here) _ (fits here) (ap phase_of e.1) c.requires.1
    ]
