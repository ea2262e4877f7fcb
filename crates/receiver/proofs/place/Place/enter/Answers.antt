-- `Place::enter` meets its contract: at its contents, or on the way there.
use Rattle.receiver.proofs.place.Cases.{entered_contents, entered_body}
use Rattle.receiver.proofs.place.Place.enter.Goals as goal

pub returns-then-from-have : goal.returns-then-from-have
returns-then-from-have c =
    entered_contents c.args.self.now _ _ _ c.saturating_sub-behind.ensures c.padding-pad.ensures.value c.saturating_sub-self.ensures c.if-from-have.true c.arrive.ensures

pub returns-else-from-have : goal.returns-else-from-have
returns-else-from-have c =
    entered_body c.args.self.now _ _ _ c.saturating_sub-behind.ensures c.padding-pad.ensures.value c.saturating_sub-self.ensures c.if-from-have.false
