-- `listing::text::Text::push_number` meets its contract: the digits made and those of what is left are the number's.
use Rattle.std.proofs.Common.{◌≡◌, length}
use Rattle.listing.proofs.text.Decimal.{Spelled}
use Rattle.listing.proofs.text.Text.push_number.Given as goal

abbrev pub invariant-loop-rest : goal.invariant-loop-rest
invariant-loop-rest l = (length l.digits ≡ 20) × Spelled l.x l.rest l.start l.digits

abbrev pub decreases-loop-rest : goal.decreases-loop-rest
decreases-loop-rest l = l.rest
