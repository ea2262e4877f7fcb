-- `listing::text::Text::push_field` meets its contract: a tab, then the digits.
use Rattle.std.proofs.Common.{[], ◌∷◌, append_assoc}
use Rattle.listing.specs.Decimal.{decimal}
use Rattle.listing.specs.Listing.{field, tab}
use Rattle.listing.specs.Text.{text_of}
use Rattle.listing.proofs.text.Text.push_field.Goals as goal

pub returns-clause-text : goal.returns-clause-text
unfolding field
returns-clause-text c = rw (c.push_number.ensures.text, c.push.ensures.text) (append_assoc (text_of c.args.self.now) (tab ∷ []) (decimal c.args.x))
