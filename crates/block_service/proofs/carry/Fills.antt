-- Stores in the bytes of an order: a run of them, the part of a run that a window has, and one part after another.
use Prim.Native.Nat.{ℕ, ◌+◌, ◌-◌, ◌≤◌, ◌<◌, min}
use mathlib.Core.Path.{◌≡◌, refl, sym, ap, ◌∙◌}
use mathlib.Core.Bool.{Bool, true, false, cond, ◌||◌}
use mathlib.Core.List.{List, [], ◌∷◌, ◌++◌}
use native.Mathlib.Omega.{arith}
use lib.Dec.{T}
use lib.ListN.{length, take, drop, replicate, length-drop}
use lib.Seq.{length-take-le}
use Rattle.common.specs.Lists.{edit}
use Rattle.common.proofs.Edit.{within, edit-part, edit-same, edit-edit, edit_keep, length-edit}
use Rattle.volume.specs.BlockMap.{blocks}
use Rattle.block_service.specs.Blocks.{block_at}
use Rattle.block_service.specs.Erase.{names}
use Rattle.block_service.specs.Carry.{filled}
use Rattle.block_service.specs.Order.{up_from, member, erase_order, part}
use Rattle.block_service.proofs.carry.Orders.{order_named}
use Rattle.block_service.proofs.carry.OrderLists.{member-append, member-up_from, part-up_from, part-append, part_all}

pub length-filled : (x : ℕ) (l v : List ℕ) → length (filled x l v) ≡ length v
unfolding filled
length-filled x l v = length-edit (λ i old. cond (member i l) x old) 0 v

pub filled_none : (x : ℕ) (v : List ℕ) → filled x [] v ≡ v
unfolding filled member
filled_none x v = edit_keep (λ i old. cond (member i []) x old) 0 v (λ i y h. refl)

pub filled-append : (x : ℕ) (k l v : List ℕ) → filled x l (filled x k v) ≡ filled x (k ++ l) v
unfolding filled
filled-append x k l v =
    edit-edit (λ i old. cond (member i l) x old) (λ i old. cond (member i k) x old) 0 v
    ∙ edit-same (λ i old. cond (member i l) x (cond (member i k) x old)) (λ i old. cond (member i (k ++ l)) x old) 0 0 v
    (λ i y h. rw (member-append (0 + i) k l) (go (member (0 + i) k) (member (0 + i) l) y))
  where
    go : (s t : Bool) (y : ℕ) → cond t x (cond s x y) ≡ cond (s || t) x y
    go true true y = refl
    go true false y = refl
    go false true y = refl
    go false false y = refl

-- a part that was lent and filled
same_value : (x k : ℕ) (l : List ℕ) → edit (λ i old. x) k l ≡ replicate (length l) x
unfolding edit
same_value x k [] = refl
same_value x k (y ∷ l) = ap (λ (r : List ℕ). x ∷ r) (same_value x (k + 1) l)

filled-run : (x a n : ℕ) (v p : List ℕ) → a + n ≤ length v → p ≡ replicate n x → take a v ++ (p ++ drop n (drop a v)) ≡ filled x (up_from a n) v
unfolding filled
filled-run x a n v p h e =
    let long : length (take n (drop a v)) ≡ n = length-take-le n (drop a v) (rw length-drop (omega arith)) in
    let q : p ≡ edit (λ i old. x) 0 (take n (drop a v)) = e ∙ sym (same_value x 0 (take n (drop a v)) ∙ ap (λ (k : ℕ). replicate k x) long) in
    rw q
    (edit-part (λ i old. x) a n v h
    ∙ edit-same (within a n (λ i old. x)) (λ i old. cond (member i (up_from a n)) x old) 0 0 v (λ i y k. rw (member-up_from (0 + i) a n)))

-- of a run from byte s, of n bytes, the part that a window has
pub window_store : (x s n f t skip stop : ℕ) (v p : List ℕ) → skip ≡ f → stop ≡ min t n → skip < stop → s + n ≤ length v
    → p ≡ replicate (s + stop - (s + skip)) x
    → take (s + skip) v ++ (p ++ drop (s + stop - (s + skip)) (drop (s + skip) v)) ≡ filled x (part f t (up_from s n)) v
window_store x s n f t skip stop v p ef et h k e =
    let z : s + stop - (s + skip) ≡ min t n - f = omega arith in
    filled-run x (s + skip) (s + stop - (s + skip)) v p (omega arith) e ∙ rw (part-up_from f t s n, z, ef)

pub window_none : (x s n f t skip stop : ℕ) (v : List ℕ) → skip ≡ f → stop ≡ min t n → stop ≤ skip → v ≡ filled x (part f t (up_from s n)) v
unfolding up_from
window_none x s n f t skip stop v ef et h =
    let z : min t n - f ≡ 0 = omega arith in
    sym (rw (part-up_from f t s n, z) (filled_none x v))

-- one run after another: the window goes on
pub window_next : (x from to at : ℕ) (a b v u : List ℕ) → u ≡ filled x (part (from - at) (to - at) a) v
    → filled x (part (from - (at + length a)) (to - (at + length a)) b) u ≡ filled x (part (from - at) (to - at) (a ++ b)) v
window_next x from to at a b v u e =
    let y : from - (at + length a) ≡ from - at - length a = omega arith in
    let z : to - (at + length a) ≡ to - at - length a = omega arith in
    rw (e, y, z) (filled-append x (part (from - at) (to - at) a) (part (from - at - length a) (to - at - length a) b) v ∙ rw (part-append (from - at) (to - at) a b))

-- all of an order stored is what its list names
pub filled_whole : (x : ℕ) (m w v : List ℕ) (n : ℕ) → ((b : ℕ) → T (names w b) → b < blocks m) → length (erase_order m w) ≤ n
    → filled x (part 0 n (erase_order m w)) v ≡ edit (λ i old. cond (names w (block_at m i)) x old) 0 v
unfolding filled
filled_whole x m w v n good h =
    edit-same (λ i old. cond (member i (part 0 n (erase_order m w))) x old) (λ i old. cond (names w (block_at m i)) x old) 0 0 v
    (λ i y k. rw (part_all (erase_order m w) n h, order_named m w (0 + i) good))
