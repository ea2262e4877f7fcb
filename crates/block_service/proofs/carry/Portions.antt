-- The volume after carryings-on: portion after portion, by none, to the end, and over bytes that a cut left in any mix.
use Prim.Native.Nat.{ℕ, ◌+◌, ◌-◌, ◌≤◌, ◌<◌}
use mathlib.Core.Path.{◌≡◌, refl, sym, ◌∙◌}
use mathlib.Core.Bool.{Bool, true, false, cond, ◌||◌, true≢false}
use mathlib.Core.List.{List, ◌++◌}
use native.Mathlib.Nat.{zero-add}
use native.Mathlib.Omega.{arith}
use borrow.Author.Tests.{leb-true, leb-false}
use lib.Dec.{T, leb}
use lib.ListN.{length, get_or}
use lib.Seq.{ext_get_or}
use Rattle.common.specs.Lists.{edit}
use Rattle.common.proofs.Edit.{length-edit, edit-same, get_or-edit, get_d_kept}
use Rattle.volume.specs.BlockMap.{blocks}
use Rattle.block_service.specs.Access.{keep, erase, erased_byte, changed_byte}
use Rattle.block_service.specs.Blocks.{block_at}
use Rattle.block_service.specs.Carry.{filled}
use Rattle.block_service.specs.Erase.{names, erase_change}
use Rattle.block_service.specs.Order.{member, part, erase_order, carry_change}
use Rattle.block_service.proofs.carry.Fills.{length-filled, filled_none, filled-append, filled_whole}
use Rattle.block_service.proofs.carry.OrderLists.{member-append, part_none, part-add}

-- an erase of some bytes is the erase value in them
pub erased-value : (a : ℕ) (t : Bool) (x : ℕ) → changed_byte a (cond t erase keep) x ≡ cond t (erased_byte a) x
unfolding changed_byte
erased-value a true x = refl
erased-value a false x = refl

-- the volume after a carrying on by n stores, by the attributes a, the map m and the list w
abbrev pub carried : ℕ → List ℕ → List ℕ → ℕ → ℕ → List ℕ → List ℕ
carried a m w job n v = edit (λ i old. changed_byte a (carry_change m w job n i) old) 0 v

-- has the erase value in the bytes of its portion
pub carried-filled : (a : ℕ) (m w : List ℕ) (job n : ℕ) (v : List ℕ) → carried a m w job n v ≡ filled (erased_byte a) (part job (job + n) (erase_order m w)) v
unfolding filled carry_change
carried-filled a m w job n v =
    edit-same (λ i old. changed_byte a (carry_change m w job n i) old) (λ i old. cond (member i (part job (job + n) (erase_order m w))) (erased_byte a) old) 0 0 v
    (λ i x h. erased-value a (member (0 + i) (part job (job + n) (erase_order m w))) x)

-- each byte of it, and any other
pub filled_byte : (x : ℕ) (l v : List ℕ) (i : ℕ) → i < length v → get_or (filled x l v) i 0 ≡ cond (member i l) x (get_or v i 0)
unfolding filled
filled_byte x l v i h = rw (get_or-edit (λ i old. cond (member i l) x old) 0 v i h, zero-add i)

pub filled_other : (x : ℕ) (l v : List ℕ) (i : ℕ) → member i l ≡ false → get_or (filled x l v) i 0 ≡ get_or v i 0
unfolding filled
filled_other x l v i e = get_d_kept (λ i old. cond (member i l) x old) v i (rw e)

-- carrying on by n and then by k more is carrying on by n + k
pub portions : (a : ℕ) (m w v : List ℕ) (job n k : ℕ) → carried a m w (job + n) k (carried a m w job n v) ≡ carried a m w job (n + k) v
portions a m w v job n k =
    let e : job + n + k ≡ job + (n + k) = omega arith in
    rw (carried-filled a m w job n v, carried-filled a m w (job + n) k (filled (erased_byte a) (part job (job + n) (erase_order m w)) v), carried-filled a m w job (n + k) v)
    (filled-append (erased_byte a) (part job (job + n) (erase_order m w)) (part (job + n) (job + n + k) (erase_order m w)) v
    ∙ rw (part-add job (job + n) (job + n + k) (erase_order m w) (omega arith) (omega arith), e))

-- by 0 it changes nothing
pub by_none : (a : ℕ) (m w v : List ℕ) (job : ℕ) → carried a m w job 0 v ≡ v
by_none a m w v job = rw (carried-filled a m w job 0 v, part_none job (job + 0) (erase_order m w) (omega arith)) (filled_none (erased_byte a) v)

-- to the end it is the erase of the list
pub to_the_end : (a : ℕ) (m w v : List ℕ) (n : ℕ) → ((b : ℕ) → T (names w b) → b < blocks m) → length (erase_order m w) ≤ n
    → carried a m w 0 n v ≡ edit (λ i old. changed_byte a (erase_change m w i) old) 0 v
unfolding erase_change
to_the_end a m w v n good h =
    carried-filled a m w 0 n v
    ∙ rw (zero-add n) (filled_whole (erased_byte a) m w v n good h)
    ∙ edit-same (λ i old. cond (names w (block_at m i)) (erased_byte a) old) (λ i old. changed_byte a (erase_change m w i) old) 0 0 v
    (λ i x k. sym (erased-value a (names w (block_at m (0 + i))) x))

-- ---- bytes that a cut left in any mix

-- a part stands in a wider one
part_wider : (l : List ℕ) (job from to end i : ℕ) → job ≤ from → to ≤ end → member i (part job end l) ≡ false → member i (part from to l) ≡ false
unfolding member
part_wider l job from to end i p q e = go (leb from to) refl
  where
    first : (s t : Bool) → (s || t) ≡ false → s ≡ false
    first true t z = z
    first false t z = refl

    second : (s t : Bool) → (s || t) ≡ false → t ≡ false
    second true t z = absurd (true≢false z)
    second false t z = z

    go : (t : Bool) → leb from to ≡ t → member i (part from to l) ≡ false
    go false h = let o : to < from = leb-false _ _ h in rw (part_none from to l (omega arith))
    go true h =
        let o : from ≤ to = leb-true _ _ h in
        let whole : member i (part job from l ++ (part from to l ++ part to end l)) ≡ false =
        rw (part-add from to end l o q, part-add job from end l p (omega arith)) e in
        let after : (member i (part job from l) || (member i (part from to l) || member i (part to end l))) ≡ false =
        rw (member-append i (part job from l) (part from to l ++ part to end l), member-append i (part from to l) (part to end l)) at whole in
        first (member i (part from to l)) _ (second (member i (part job from l)) _ after)

-- two volumes that differ in bytes that are stored over are the same afterwards
filled_over : (x : ℕ) (l u v : List ℕ) → length u ≡ length v → ((i : ℕ) → member i l ≡ false → get_or u i 0 ≡ get_or v i 0) → filled x l u ≡ filled x l v
filled_over x l u v e h =
    ext_get_or 0 (filled x l u) (filled x l v) (length-filled x l u ∙ e ∙ sym (length-filled x l v))
    (λ i k. let p : i < length u = rw (length-filled x l u) at k in
    filled_byte x l u i p ∙ go i (member i l) refl ∙ sym (filled_byte x l v i (omega arith)))
  where
    go : (i : ℕ) (t : Bool) → member i l ≡ t → cond t x (get_or u i 0) ≡ cond t x (get_or v i 0)
    go i true q = refl
    go i false q = h i q

-- so where they differ only in bytes numbered from `from` on and below `to`, a carrying on from there or earlier, to there or past it, makes them the same
pub torn : (a : ℕ) (m w : List ℕ) (job n from to : ℕ) (u v : List ℕ) → job ≤ from → to ≤ job + n → length u ≡ length v
    → ((i : ℕ) → member i (part from to (erase_order m w)) ≡ false → get_or u i 0 ≡ get_or v i 0) → carried a m w job n u ≡ carried a m w job n v
torn a m w job n from to u v p q e h =
    carried-filled a m w job n u
    ∙ filled_over (erased_byte a) (part job (job + n) (erase_order m w)) u v e (λ i k. h i (part_wider (erase_order m w) job from to (job + n) i p q k))
    ∙ sym (carried-filled a m w job n v)

-- from acceptance on to a place, and on from there
pub from_start : (a : ℕ) (m w v : List ℕ) (job n : ℕ) → carried a m w job n (carried a m w 0 job v) ≡ carried a m w 0 (job + n) v
from_start a m w v job n = rw (zero-add job) at (portions a m w v 0 job n)

-- carrying on again from any place up to the cut, to the cut or past it, ends as if there had been no cut
pub again : (a : ℕ) (m w v : List ℕ) (made job n : ℕ) → job ≤ made → made ≤ job + n → carried a m w job n (carried a m w 0 made v) ≡ carried a m w 0 (job + n) v
again a m w v made job n p q =
    torn a m w job n job made (carried a m w 0 made v) (carried a m w 0 job v) (omega arith) q
    (length-edit (λ i old. changed_byte a (carry_change m w 0 made i) old) 0 v ∙ sym (length-edit (λ i old. changed_byte a (carry_change m w 0 job i) old) 0 v)) apart
    ∙ from_start a m w v job n
  where
    apart : (i : ℕ) → member i (part job made (erase_order m w)) ≡ false → get_or (carried a m w 0 made v) i 0 ≡ get_or (carried a m w 0 job v) i 0
    apart i k =
        let e : job + (made - job) ≡ made = omega arith in
        rw (← (rw e at (from_start a m w v job (made - job))), carried-filled a m w job (made - job) (carried a m w 0 job v), e)
        (filled_other (erased_byte a) (part job made (erase_order m w)) (carried a m w 0 job v) i k)
