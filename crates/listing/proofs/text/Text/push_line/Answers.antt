-- `listing::text::Text::push_line` meets its contract: five pieces of text in a row are the line.
use Rattle.std.proofs.Common.{append_assoc}
use Rattle.listing.specs.Listing.{line}
use Rattle.listing.proofs.text.Text.push_line.Goals as goal

pub returns-clause-text : goal.returns-clause-text
unfolding line
returns-clause-text c =
    rw (c.push-2.ensures.text, c.push_field-3.ensures.text, c.push_field-2.ensures.text, c.push_field.ensures.text, c.push.ensures.text) (simp append_assoc)
