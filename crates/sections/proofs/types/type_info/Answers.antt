-- `type_info` meets its contract: each arm of the match is a row of the list of types, and the last one is what no row has.
use mathlib.Core.Path.{sym, ap, ◌∙◌}
use Rattle.sections.specs.Types.{info_among, type_info}
use Rattle.sections.proofs.types.Rows.{unlisted}
use borrow.Author.Rules.{rules}
use Rattle.sections.proofs.types.type_info.Goals as goal

pub returns-in-1 : goal.returns-in-1
unfolding type_info info_among
returns-in-1 c = sym (ap type_info c.in-1.is)

pub returns-in-2 : goal.returns-in-2
unfolding type_info info_among
returns-in-2 c = sym (ap type_info c.in-2.is)

pub returns-in-16 : goal.returns-in-16
unfolding type_info info_among
returns-in-16 c = c.plain_leaf.ensures ∙ sym (ap type_info c.in-16.is)

pub returns-in-17 : goal.returns-in-17
unfolding type_info info_among
returns-in-17 c = c.plain_leaf-in-17.ensures ∙ sym (ap type_info c.in-17.is)

pub returns-in-18 : goal.returns-in-18
unfolding type_info info_among
returns-in-18 c = c.plain_leaf-in-18.ensures ∙ sym (ap type_info c.in-18.is)

pub returns-in-19 : goal.returns-in-19
unfolding type_info info_among
returns-in-19 c = c.plain_leaf-in-19.ensures ∙ sym (ap type_info c.in-19.is)

pub returns-in-20 : goal.returns-in-20
unfolding type_info info_among
returns-in-20 c = c.plain_leaf-in-20.ensures ∙ sym (ap type_info c.in-20.is)

pub returns-in-21 : goal.returns-in-21
unfolding type_info info_among
returns-in-21 c = c.plain_leaf-in-21.ensures ∙ sym (ap type_info c.in-21.is)

pub returns-in-22 : goal.returns-in-22
unfolding type_info info_among
returns-in-22 c = c.plain_leaf-in-22.ensures ∙ sym (ap type_info c.in-22.is)

pub returns-in-23 : goal.returns-in-23
unfolding type_info info_among
returns-in-23 c = c.plain_leaf-in-23.ensures ∙ sym (ap type_info c.in-23.is)

pub returns-in-24 : goal.returns-in-24
unfolding type_info info_among
returns-in-24 c = sym (ap type_info c.in-24.is)

pub returns-in-25 : goal.returns-in-25
unfolding type_info info_among
returns-in-25 c = c.plain_leaf-in-25.ensures ∙ sym (ap type_info c.in-25.is)

pub returns-in-27 : goal.returns-in-27
unfolding type_info info_among
returns-in-27 c = c.plain_leaf-in-27.ensures ∙ sym (ap type_info c.in-27.is)

pub returns-in_default : goal.returns-in_default
returns-in_default c =
    c.plain_leaf-in_default.ensures
    ∙ sym (unlisted _ (search rules) (search rules) (search rules) (search rules) (search rules) (search rules) (search rules) (search rules) (search rules) (search rules) (search rules) (search rules) (search rules))
