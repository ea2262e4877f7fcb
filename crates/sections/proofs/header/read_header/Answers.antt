-- `read_header` meets its contract: 201, and past it what `tested` answers of the size in the header that is there.
use mathlib.Core.Path.{refl, sym, ◌∙◌}
use Rattle.sections.proofs.header.Sizes.{sized_201, sized_201_long, sized_short, sized_long}
use borrow.Author.Rules.{rules}
use Rattle.sections.proofs.header.read_header.Goals as goal

pub returns-then-left-lt-COMMON_HEADER-clause-sized : goal.returns-then-left-lt-COMMON_HEADER-clause-sized
returns-then-left-lt-COMMON_HEADER-clause-sized c = sized_201 _ _ _ _ (search rules)

pub returns-then-not-is_long-clause-sized : goal.returns-then-not-is_long-clause-sized
returns-then-not-is_long-clause-sized c =
    let read = c.u24_byte_at-start.ensures in
    sized_short _ _ _ _ (search rules) read.0 (sym c.is_long.ensures ∙ c.if-not-is_long.true) refl read.1 c.tested.ensures.sized

pub returns-then-left-lt-LONG_HEADER-clause-sized : goal.returns-then-left-lt-LONG_HEADER-clause-sized
returns-then-left-lt-LONG_HEADER-clause-sized c =
    let read = c.u24_byte_at-start.ensures in
    sized_201_long _ _ _ _ (search rules) read.0 (sym c.is_long.ensures ∙ c.if-not-is_long.false) (search rules)

pub returns-clause-sized : goal.returns-clause-sized
returns-clause-sized c =
    let read = c.u24_byte_at-start.ensures in
    sized_long _ _ _ _ (search rules) read.0 (sym c.is_long.ensures ∙ c.if-not-is_long.false) (search rules) refl read.1
    c.u32_at-size.ensures c.tested-2.ensures.sized
