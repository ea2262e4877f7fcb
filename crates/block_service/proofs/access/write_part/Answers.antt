-- `block_service::access::write_part` meets its contract: the write rule's three cases.
use mathlib.Core.Path.{◌≡◌, sym, ap, ◌∙◌}
use Prim.Native.Nat.{ℕ}
use mathlib.Core.List.{List}
use lib.Bits.{bit_and, bit_or}
use lib.ListN.{get_or}
use borrow.Author.Rules.{rules}
use Rattle.block_service.proofs.access.Moves.{written_each, written_plain, written_and, written_or}
use Rattle.block_service.proofs.access.write_part.Goals as goal

pub returns-then-not-is_set : goal.returns-then-not-is_set
returns-then-not-is_set c =
    let a = c.args in
    let plain = sym c.is_set.ensures ∙ c.if-not-is_set.true in
    written_each _ a.part.now a.new.now _ c.copy_from_slice.ensures.len
    (λ i b. ap (λ (l : List ℕ). get_or l i 0) c.copy_from_slice.ensures.after ∙ sym (written_plain _ (get_or a.part.now i 0) _ plain))

pub returns-then-is_set : goal.returns-then-is_set
returns-then-is_set c =
    let sticky = sym c.is_set.ensures ∙ c.if-not-is_set.false in
    let ones = sym c.is_set-else-not-is_set.ensures ∙ c.if-is_set.true in
    written_each _ _ _ _ c.merge.ensures.kept_length
    (λ i b. let h = c.merge.ensures.merged i b in let r : get_or c.merge.new.part i 0 ≡ bit_and (get_or c.args.part.now i 0) (get_or c.args.new.now i 0) = search rules in r ∙ sym (written_and _ _ _ sticky ones))

pub returns-else-is_set : goal.returns-else-is_set
returns-else-is_set c =
    let sticky = sym c.is_set.ensures ∙ c.if-not-is_set.false in
    let zeros = sym c.is_set-else-not-is_set.ensures ∙ c.if-is_set.false in
    written_each _ _ _ _ c.merge-else-is_set.ensures.kept_length
    (λ i b. let h = c.merge-else-is_set.ensures.merged i b in let r : get_or c.merge-else-is_set.new.part i 0 ≡ bit_or (get_or c.args.part.now i 0) (get_or c.args.new.now i 0) = search rules in r ∙ sym (written_or _ _ _ sticky zeros))
