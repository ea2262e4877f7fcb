-- A text that is appended to. It is the struct `Text` of src/text.rt.
use Rattle.std.specs.Prelude.{ℕ, List, take}
use Rattle.listing.specs.declared.text.Text.{Text}

-- its bytes: the first of its buffer, as many as it has
abbrev pub text_of : Text → List ℕ
text_of t = take t.len t.bytes
