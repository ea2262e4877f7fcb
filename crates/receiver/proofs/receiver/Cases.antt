-- With one byte more of a header, as the code has it: in the receiver that holds this byte too.
use Rattle.std.proofs.Common.{◌≡◌, ℕ, ◌+◌, List, set, refl, ap, ◌∙◌}
use Rattle.sections.specs.Partial.{partial_of, Partial}
use Rattle.receiver.specs.Place.{Header}
use Rattle.receiver.specs.Receiver.{Receiver, receiver, looked, met, stepped}

module _ (r : Receiver) where
  abbrev holding : List ℕ → Receiver
  holding header = receiver r.mode r.want r.tally r.place header

  -- it does not depend on the bytes that the receiver held
  looked_alike : (held header : List ℕ) (have : ℕ) (look : Partial) → looked (holding held) header have look ≡ looked r header have look
  unfolding looked met
  looked_alike held header have Partial.Waiting = refl
  looked_alike held header have (Partial.Fault n) = refl
  looked_alike held header have (Partial.Closed t first e) = refl
  looked_alike held header have (Partial.Open t first from e) = refl

  -- with one byte more
  pub byte_more : (have b : ℕ) {look : Partial} → look ≡ partial_of r.mode (set r.header have b) (have + 1) r.place.left
      → looked (holding (set r.header have b)) (set r.header have b) (have + 1) look ≡ stepped (Header have) r b
  unfolding stepped
  byte_more have b {look} l =
      looked_alike (set r.header have b) (set r.header have b) (have + 1) look ∙ ap (looked r (set r.header have b) (have + 1)) l
