-- `append` meets its contract: each return is a row of the refusals, or the new used count.
use borrow.Author.Rules.{rules}
use native.Mathlib.Omega.{arith}
use Rattle.sections.proofs.append.Refusals.{append-refused, append_done, append_2, append_202}
use Rattle.sections.proofs.append.Refusals.{append_206_leaf, append_206_stream, append_5, append_passes, sized, short_limit}
use Rattle.sections.proofs.append.Stores.{most_header, either_header}
use Rattle.sections.proofs.append.append.Goals as goal

pub returns-then-section_type-eq-SECTION_COMPRESSION : goal.returns-then-section_type-eq-SECTION_COMPRESSION
returns-then-section_type-eq-SECTION_COMPRESSION c = append-refused _ _ _ _ _ (append_2 _ _ _ _ _ c.then-section_type-eq-SECTION_COMPRESSION.either)

pub returns-then-size-type_info : goal.returns-then-size-type_info
returns-then-size-type_info c =
    append-refused _ _ _ _ _ (append_202 _ _ _ _ _ (search rules) (search rules) (search rules) (rw c.type_info.ensures at c.if-size-type_info.true))

pub returns-then-largest_leaf-size : goal.returns-then-largest_leaf-size
returns-then-largest_leaf-size c =
    append-refused _ _ _ _ _
    (append_206_leaf _ _ _ _ _ (search rules) (search rules) (search rules) (rw c.type_info.ensures at c.if-size-type_info.false) (rw c.largest_leaf.ensures at c.if-largest_leaf-size.true))

pub overflow_add-end : goal.overflow_add-end
overflow_add-end c = let h = most_header _ _ c.leaf_header-header.ensures in omega arith

pub overflow_add-end-2 : goal.overflow_add-end-2
overflow_add-end-2 c =
    let h = most_header _ _ c.leaf_header-header.ensures in
    let limit = short_limit _ _ (rw c.largest_leaf.ensures at c.if-largest_leaf-size.false) in
    omega arith

pub returns-then-stream_limit-end : goal.returns-then-stream_limit-end
returns-then-stream_limit-end c =
    append-refused _ _ _ _ _
    (append_206_stream _ _ _ _ _ (search rules) (search rules) (search rules) (rw c.type_info.ensures at c.if-size-type_info.false)
    (sized _ _ (rw c.largest_leaf.ensures at c.if-largest_leaf-size.false)) (search rules))

pub returns-then-buffer-end : goal.returns-then-buffer-end
returns-then-buffer-end c =
    append-refused _ _ _ _ _
    (append_5 _ _ _ _ _ (search rules) (search rules) (search rules) (rw c.type_info.ensures at c.if-size-type_info.false)
    (sized _ _ (rw c.largest_leaf.ensures at c.if-largest_leaf-size.false)) (search rules) (search rules))

pub store_leaf-requires : goal.store_leaf-requires
store_leaf-requires c = (either_header _ _ c.leaf_header-header.ensures, search rules)

pub returns : goal.returns
returns c =
    append_done _ _ _ _ _ _ _ (search rules) (rw c.leaf_header-header.ensures at c.store_leaf.ensures) (search rules)
    (append_passes _ _ _ _ _ (search rules) (search rules) (search rules) (rw c.type_info.ensures at c.if-size-type_info.false)
    (sized _ _ (rw c.largest_leaf.ensures at c.if-largest_leaf-size.false)) (search rules) (search rules))
