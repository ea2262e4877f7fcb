-- `Place::arrive` meets its contract.
use Rattle.std.proofs.Common.{◌∙◌, rules}
use Rattle.receiver.proofs.place.Cases.{at_padding, at_outwards, at_201, at_header}
use Rattle.receiver.proofs.place.Place.arrive.Goals as goal
use Rattle.receiver.proofs.place.Place.arrive.Goals.{then-self-lt-COMMON_HEADER, else-self-lt-COMMON_HEADER}

pub returns-then-outer-ne0 : goal.returns-then-outer-ne0
returns-then-outer-ne0 c = at_padding _ _ _ _ c.loop-self-test.true (search rules) (search rules) ∙ c.loop-self.invariant.same

pub loop-self-preserved : goal.loop-self-preserved
loop-self-preserved c =
    record { depth = search rules; same = at_outwards _ _ _ _ c.loop-self-test.true (search rules) (search rules) ∙ c.loop-self.invariant.same }

pub returns : goal.returns
returns c =
    elim c.if-self-lt-COMMON_HEADER.branch [
      | then-self-lt-COMMON_HEADER w ↦ rw w.self-is (rw w.number.ensures (at_201 _ _ _ _ c.loop-self-test.false w.if-self-lt-COMMON_HEADER.true ∙ c.loop-self.invariant.same))
      | else-self-lt-COMMON_HEADER w ↦ rw w.self-is (at_header _ _ _ _ w.if-self-lt-COMMON_HEADER.false ∙ c.loop-self.invariant.same)
    ]
