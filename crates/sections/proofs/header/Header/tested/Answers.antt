-- `tested` meets its contract: the header has the class of its type.
use mathlib.Core.Path.{ap}
use Rattle.sections.specs.declared.types.TypeInfo.{TypeInfo}
use Rattle.sections.proofs.header.Header.tested.Goals as goal

pub fitting-requires : goal.fitting-requires
fitting-requires c = ap (λ (i : TypeInfo). i.class) c.type_info-info.ensures

pub fitting-requires-in-GuidHeadedLeaf : goal.fitting-requires-in-GuidHeadedLeaf
fitting-requires-in-GuidHeadedLeaf c = ap (λ (i : TypeInfo). i.class) c.type_info-info.ensures

pub fitting-requires-in-PlainLeaf : goal.fitting-requires-in-PlainLeaf
fitting-requires-in-PlainLeaf c = ap (λ (i : TypeInfo). i.class) c.type_info-info.ensures
