-- `own_fields` meets its contract, class by class.
use mathlib.Core.Path.{◌≡◌, ap}
use native.Mathlib.Omega.{arith}
use Rattle.sections.specs.Types.{type_info}
use Rattle.sections.specs.declared.types.TypeInfo.{TypeInfo}
use Rattle.sections.proofs.types.Rows.{least_range}
use Rattle.sections.proofs.partial.Views.{own_of_holder, own_of_leaf}
use Rattle.sections.proofs.partial.own_fields.Goals as goal

pub overflow_sub-result : goal.overflow_sub-result
overflow_sub-result c =
    let q = least_range c.args.section_type in
    let k : c.type_info-info.result.least ≡ (type_info c.args.section_type).least = ap (λ (i : TypeInfo). i.least) c.type_info-info.ensures in
    omega arith

pub returns-in-OpenableHolder : goal.returns-in-OpenableHolder
returns-in-OpenableHolder c = own_of_holder _ c.type_info-info.ensures (rw c.in-OpenableHolder.is)

pub returns-in-GuidHeadedLeaf : goal.returns-in-GuidHeadedLeaf
returns-in-GuidHeadedLeaf c = own_of_leaf _ c.type_info-info.ensures (rw c.in-GuidHeadedLeaf.is)

pub returns-in-PlainLeaf : goal.returns-in-PlainLeaf
returns-in-PlainLeaf c = own_of_leaf _ c.type_info-info.ensures (rw c.in-PlainLeaf.is)
