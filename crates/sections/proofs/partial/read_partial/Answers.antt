-- `read_partial` meets its contract, test by test.
use Prim.Native.Nat.{ℕ, ◌≤◌}
use mathlib.Core.Path.{◌≡◌, sym, ap, ◌∙◌}
use mathlib.Core.Bool.{cond}
use native.Mathlib.Omega.{arith}
use borrow.Author.Rules.{rules}
use lib.ListN.{length}
use Rattle.std.proofs.lemmas.Result.{err_from_is_err_and}
use Rattle.sections.specs.Header.{header_length, is_long}
use Rattle.sections.proofs.types.Rows.{least_range}
use Rattle.sections.proofs.header.Sizes.{header_range}
use Rattle.sections.proofs.header.Tests.{is_sized, in_lies}
use Rattle.sections.proofs.partial.Views.{finds_201, waits_size, finds_201_long, waits_header, finds_refused, waits_tested, finds_204, waits_own, finds_section, own_most, tested_most}
use Rattle.sections.proofs.partial.read_partial.Goals as goal
use Rattle.sections.proofs.partial.read_partial.Goals.{After-header_length-length, In_ok-header}

-- the length of the header
headed : (c : After-header_length-length) → c.header_length-length.result ≡ header_length c.args.mode c.args.bytes.now 0
unfolding header_length
headed c = c.header_length-length.ensures ∙ ap (λ (f : ℕ). cond (is_long c.args.mode f) 8 4) c.u24_at.ensures.0

pub returns-then-left-lt-COMMON_HEADER : goal.returns-then-left-lt-COMMON_HEADER
returns-then-left-lt-COMMON_HEADER c = finds_201 _ _ _ _ (search rules)

pub returns-then-have-lt-TYPE : goal.returns-then-have-lt-TYPE
returns-then-have-lt-TYPE c = waits_size _ _ _ _ (search rules) (search rules)

pub returns-then-left-length : goal.returns-then-left-length
returns-then-left-length c = finds_201_long _ _ _ _ (search rules) (headed (goal.at.returns-then-left-length c).After-header_length-length) (search rules) (search rules)

pub returns-then-have-length : goal.returns-then-have-length
returns-then-have-length c = waits_header _ _ _ _ (search rules) (headed (goal.at.returns-then-have-length c).After-header_length-length) (search rules) (search rules)

pub returns-in_err-header : goal.returns-in_err-header
returns-in_err-header c =
    let p = err_from_is_err_and c.from_residual.result c.from_residual.ensures.1 in
    rw (p.1, p.2) (finds_refused _ _ _ _ (search rules) (headed (goal.at.returns-in_err-header c).After-header_length-length) (search rules) (search rules) c.in_err-header.ensures.sized)

-- the header that was read has 4 to 8 bytes
short : (c : In_ok-header) → c.in_ok-header.header.length ≤ 8
short c =
    let h = is_sized c.args.mode c.args.left c.args.bytes.now 0 (sym c.in_ok-header.ensures.sized) in
    let r = header_range c.args.mode c.args.bytes.now 0 in
    omega (arith, h.headed)

pub overflow_add-header : goal.overflow_add-header
overflow_add-header c =
    let s = short (goal.at.overflow_add-header c).In_ok-header in
    let k = c.contents_fields.ensures in
    omega (arith, tested_most c.in_ok-header.header.section_type)

pub returns-then-have-header : goal.returns-then-have-header
returns-then-have-header c = waits_tested _ _ _ _ c.in_ok-header.header c.in_ok-header.ensures.sized c.contents_fields.ensures (search rules)

pub section-requires : goal.section-requires
section-requires c =
    let s = short (goal.at.section-requires c).In_ok-header in
    let l = least_range c.in_ok-header.header.section_type in
    let n : length c.args.bytes.now ≡ 28 = search rules in
    (in_lies _ _ _ _ c.in_ok-header.ensures.sized (omega arith) (search rules), c.in_ok-header.ensures.classed)

pub returns-in_err-section : goal.returns-in_err-section
returns-in_err-section c =
    let p = err_from_is_err_and c.from_residual-in_err-section.result c.from_residual-in_err-section.ensures.1 in
    rw (p.1, p.2) (finds_204 _ _ _ _ c.in_ok-header.header c.in_ok-header.ensures.sized c.contents_fields.ensures (search rules) c.in_err-section.ensures)

pub overflow_add-header-2 : goal.overflow_add-header-2
overflow_add-header-2 c =
    let s = short (goal.at.overflow_add-header-2 c).In_ok-header in
    let k = c.own_fields.ensures in
    omega (arith, own_most c.in_ok-header.header.section_type)

pub returns-then-have-header-2 : goal.returns-then-have-header-2
returns-then-have-header-2 c = waits_own _ _ _ _ c.in_ok-header.header c.in_ok-header.ensures.sized c.in_ok-section.section c.own_fields.ensures c.in_ok-section.ensures (search rules)

pub returns : goal.returns
returns c = finds_section _ _ _ _ c.in_ok-header.header c.in_ok-header.ensures.sized c.in_ok-section.section c.own_fields.ensures c.in_ok-section.ensures (search rules)
