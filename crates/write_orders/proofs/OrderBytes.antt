-- Laws of orders that come as bytes.
use Prim.Native.Nat.{ℕ, zero, suc, ◌+◌, ◌*◌, ◌/◌, ◌≤◌, ◌<◌}
use mathlib.Core.List.{List, [], ◌∷◌, ◌++◌, map, append_assoc}
use mathlib.Core.Path.{◌≡◌, refl, sym, ap, ap₂, ◌∙◌}
use native.Mathlib.Nat.{add-zero}
use native.Mathlib.Omega.{arith}
use lib.ListN.{length, get_or, take, drop, take-append-drop, length-append}
use lib.Seq.{get_or-take, length-take-le}
use Rattle.std.specs.Simd.{first_chunks}
use Rattle.std.specs.List.{slice_get}
use Rattle.std.specs.Option.{option_map}
use Rattle.std.proofs.lemmas.List.{drop-drop}
use Rattle.std.proofs.lemmas.Option.{slice_get-map}
use Rattle.numbers.specs.LittleEndian.{le, le_bytes}
use Rattle.numbers.proofs.LittleEndian.{le_same, le_skip, le-le_bytes, length-le_bytes}
use Rattle.write_orders.specs.Orders.{order_bytes, order_at, orders_from, orders_in, bytes_of, list_bytes, Typed}
use Rattle.write_orders.specs.declared.Order.{Order}

-- ---- each order is that of 32 bytes by themselves

chunk_number : (s : List ℕ) (p at : ℕ) → p ≤ length s → at + 8 ≤ order_bytes → le 8 (take order_bytes (drop p s)) at ≡ le 8 s (p + at)
chunk_number s p at h k =
    let long : length (take p s) ≡ p = length-take-le p s h in
    let behind : le 8 (take p s ++ drop p s) (length (take p s) + at) ≡ le 8 (drop p s) at = le_skip 8 (take p s) (drop p s) at in
    le_same 8 (take order_bytes (drop p s)) (drop p s) at (λ i a b. get_or-take order_bytes (drop p s) i 0 (omega arith))
    ∙ sym (rw (take-append-drop p s, long) at behind)

chunk_order : (s : List ℕ) (i : ℕ) → order_bytes * i ≤ length s → order_at (take order_bytes (drop (order_bytes * i) s)) 0 ≡ order_at s i
unfolding order_at
chunk_order s i h =
    let number : (at : ℕ) → at + 8 ≤ order_bytes → le 8 (take order_bytes (drop (order_bytes * i) s)) at ≡ le 8 s (order_bytes * i + at) = λ at k. chunk_number s (order_bytes * i) at h k in
    let b = number 0 (omega arith) ∙ ap (le 8 s) (add-zero (order_bytes * i)) in
    let f = number 8 (omega arith) in
    let g = number 16 (omega arith) in
    let n = number 24 (omega arith) in
    λ j. record { block = b j; offset = f j; first = g j; len = n j }

chunks_from : (k : ℕ) (s : List ℕ) (i : ℕ) → order_bytes * (i + k) ≤ length s
    → orders_from k s i ≡ map (λ (c : List ℕ). order_at c 0) (first_chunks order_bytes k (drop (order_bytes * i) s))
unfolding orders_from
chunks_from zero s i h = refl
chunks_from (suc k) s i h =
    let next : drop (order_bytes * (i + 1)) s ≡ drop order_bytes (drop (order_bytes * i) s) =
    ap (λ (n : ℕ). drop n s) (omega arith) ∙ sym (drop-drop order_bytes (order_bytes * i) s) in
    ap₂ (λ (o : Order) (os : List Order). o ∷ os) (sym (chunk_order s i (omega arith)))
    (chunks_from k s (i + 1) (omega arith) ∙ ap (λ (l : List ℕ). map (λ (c : List ℕ). order_at c 0) (first_chunks order_bytes k l)) next)

-- so order i of a list of bytes is that of the i-th 32 of them, where there are so many
pub order_found : (s : List ℕ) (i : ℕ)
    → slice_get (orders_in s) i ≡ option_map (λ (c : List ℕ). order_at c 0) (slice_get (first_chunks order_bytes (length s / order_bytes) s) i)
unfolding orders_in
order_found s i = ap (λ (l : List Order). slice_get l i) (chunks_from (length s / order_bytes) s 0 (omega arith)) ∙ slice_get-map _ _ i

from-length : (k : ℕ) (s : List ℕ) (i : ℕ) → length (orders_from k s i) ≡ k
unfolding orders_from
from-length zero s i = refl
from-length (suc k) s i = ap suc (from-length k s (i + 1))

pub orders_length : (s : List ℕ) → length (orders_in s) ≡ length s / order_bytes
unfolding orders_in
orders_length s = from-length (length s / order_bytes) s 0

-- ---- what was put into bytes is read back

-- a number that lies behind another
behind : (x : ℕ) (r : List ℕ) (n : ℕ) → le 8 (le_bytes 8 x ++ r) (8 + n) ≡ le 8 r n
behind x r n = ap (λ (k : ℕ). le 8 (le_bytes 8 x ++ r) (k + n)) (sym (length-le_bytes 8 x)) ∙ le_skip 8 (le_bytes 8 x) r n

bytes-length : (o : Order) → length (bytes_of o) ≡ order_bytes
unfolding bytes_of
bytes-length o =
    rw (length-append (le_bytes 8 o.block) _, length-append (le_bytes 8 o.offset) _, length-append (le_bytes 8 o.first) (le_bytes 8 o.len))
    (omega (arith, length-le_bytes 8 o.block, length-le_bytes 8 o.offset, length-le_bytes 8 o.first, length-le_bytes 8 o.len))

-- an order that lies behind i others
module _ (p r : List ℕ) (i : ℕ) (o : Order) (before : length p ≡ order_bytes * i) where
  abbrev tail : List ℕ
  tail = le_bytes 8 o.block ++ (le_bytes 8 o.offset ++ (le_bytes 8 o.first ++ (le_bytes 8 o.len ++ r)))

  flat : bytes_of o ++ r ≡ tail
  unfolding bytes_of
  flat =
      append_assoc (le_bytes 8 o.block) _ r
      ∙ ap (λ (l : List ℕ). le_bytes 8 o.block ++ l)
      (append_assoc (le_bytes 8 o.offset) _ r ∙ ap (λ (l : List ℕ). le_bytes 8 o.offset ++ l) (append_assoc (le_bytes 8 o.first) (le_bytes 8 o.len) r))

  at_order : (n : ℕ) → le 8 (p ++ tail) (order_bytes * i + n) ≡ le 8 tail n
  at_order n = rw (← before) (le_skip 8 p tail n)

  one_back : Typed o → order_at (p ++ (bytes_of o ++ r)) i ≡ o
  unfolding order_at
  one_back small =
      let b : le 8 (p ++ tail) (order_bytes * i) ≡ o.block = ap (le 8 (p ++ tail)) (sym (add-zero (order_bytes * i))) ∙ at_order 0 ∙ le-le_bytes 8 o.block _ small.0 in
      let f : le 8 (p ++ tail) (order_bytes * i + 8) ≡ o.offset = at_order 8 ∙ behind o.block _ 0 ∙ le-le_bytes 8 o.offset _ small.1 in
      let g : le 8 (p ++ tail) (order_bytes * i + 16) ≡ o.first = at_order 16 ∙ behind o.block _ 8 ∙ behind o.offset _ 0 ∙ le-le_bytes 8 o.first _ small.2 in
      let h : le 8 (p ++ tail) (order_bytes * i + 24) ≡ o.len = at_order 24 ∙ behind o.block _ 16 ∙ behind o.offset _ 8 ∙ behind o.first _ 0 ∙ le-le_bytes 8 o.len _ small.3 in
      rw flat (λ j. record { block = b j; offset = f j; first = g j; len = h j })

list_length : (os : List Order) → length (list_bytes os) ≡ order_bytes * length os
unfolding list_bytes
list_length [] = refl
list_length (o ∷ os) = rw (length-append (bytes_of o) (list_bytes os), bytes-length o, list_length os) (omega arith)

back_from : (p : List ℕ) (i : ℕ) (os : List Order) (part : List ℕ) → length p ≡ order_bytes * i → ((j : ℕ) (z : Order) → j < length os → Typed (get_or os j z))
    → orders_from (length os) (p ++ (list_bytes os ++ part)) i ≡ os
unfolding orders_from list_bytes
back_from p i [] part e h = refl
back_from p i (o ∷ os) part e h =
    let r : List ℕ = list_bytes os ++ part in
    let flat : p ++ (bytes_of o ++ list_bytes os ++ part) ≡ p ++ (bytes_of o ++ r) = ap (λ (l : List ℕ). p ++ l) (append_assoc (bytes_of o) (list_bytes os) part) in
    let next : length (p ++ bytes_of o) ≡ order_bytes * (i + 1) = length-append p (bytes_of o) ∙ (let z : length p + length (bytes_of o) ≡ order_bytes * (i + 1) = omega (arith, bytes-length o) in z) in
    rw (flat, one_back p r i o e (h 0 o (omega arith)))
    (ap (λ (l : List Order). o ∷ l) (rw (append_assoc p (bytes_of o) r) at (back_from (p ++ bytes_of o) (i + 1) os part next (λ j z q. h (suc j) z (omega arith)))))

-- the bytes of a list, and a part of an order behind them, hold that list
pub orders_back : (os : List Order) (part : List ℕ) → ((j : ℕ) (z : Order) → j < length os → Typed (get_or os j z)) → length part < order_bytes → orders_in (list_bytes os ++ part) ≡ os
unfolding orders_in
orders_back os part h few = rw whole (back_from [] 0 os part refl h)
  where
    whole : length (list_bytes os ++ part) / order_bytes ≡ length os
    whole = rw (length-append (list_bytes os) part, list_length os) (omega arith)
