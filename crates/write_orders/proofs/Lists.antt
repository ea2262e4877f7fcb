-- Laws of lists of orders: one order, a list in two parts, where a list ends, and the bytes that no list changes.
use Prim.Native.Nat.{ℕ, suc, ◌+◌, ◌≤◌, ◌<◌}
use mathlib.Core.Bool.{Bool, true, false, cond, true≢false}
use mathlib.Core.List.{List, [], ◌∷◌, ◌++◌}
use mathlib.Core.Logic.{◌⊎◌, inl, inr}
use mathlib.Core.Path.{◌≡◌, refl, sym, ap, ◌∙◌}
use native.Mathlib.Nat.{add-zero, zero-add}
use native.Mathlib.Omega.{arith}
use borrow.Author.Tests.{lt-ltb, le-ltb}
use lib.Dec.{T, ltb}
use lib.ListN.{length, get_or, length-append}
use Rattle.common.specs.Answers.{Answer, refused}
use Rattle.volume.specs.State.{map_of}
use Rattle.volume.specs.declared.state.State.{State}
use Rattle.block_service.specs.Access.{count_moved}
use Rattle.block_service.specs.Blocks.{place, in_block}
use Rattle.block_service.specs.Service.{Call, write, Result, step}
use Rattle.block_service.specs.Blocks.{At}
use Rattle.block_service.proofs.service.Kept.{past_length_kept, protected_kept}
use Rattle.block_service.proofs.service.Steps.{refused_changes_nothing}
use Rattle.isolation.specs.Runs.{is_success}
use Rattle.write_orders.specs.Orders.{stretch, call_of, Batch, batch, writes_from, nothing_yet, most_orders, write_orders, counted}
use Rattle.write_orders.specs.declared.Order.{Order}
use Rattle.write_orders.proofs.Turns.{as_write, stretch_lies, order_outside}

-- ---- where the limit does not refuse, a list is its single writes from the first on

pub within_limit : (st : State) (d v : List ℕ) (os : List Order) → length os ≤ most_orders → write_orders st d v os ≡ writes_from st d 0 nothing_yet v os
unfolding write_orders
within_limit st d v os h = rw (le-ltb most_orders (length os) h)

pub too_many : (st : State) (d v : List ℕ) (os : List Order) → most_orders < length os → write_orders st d v os ≡ batch 0 (refused 2) v
unfolding write_orders
too_many st d v os h = rw (lt-ltb most_orders (length os) h)

-- ---- one order

-- one that is refused changes nothing
pub refused_volume : (st : State) (v : List ℕ) (c : Call) (n : ℕ) → (step st v c).answer ≡ refused n → (step st v c).volume ≡ v
refused_volume st v c n e = ap (λ (r : Result). r.volume) (refused_changes_nothing st v c n e)

-- a list of one order whose stretch lies in the data is the write, counted where it succeeded
pub one_order : (st : State) (d v : List ℕ) (o : Order) → o.first + o.len ≤ length d
    → let r = step st v (write o.block o.offset (stretch d o)) in
    write_orders st d v (o ∷ []) ≡ batch (counted r.answer 0) r.answer r.volume
unfolding write_orders writes_from counted
one_order st d v o h = rw (stretch_lies st d o h) (go (is_success (step st v (write o.block o.offset (stretch d o))).answer))
  where
    r : Result
    r = step st v (write o.block o.offset (stretch d o))

    go : (t : Bool) → cond t (batch 1 r.answer r.volume) (batch 0 r.answer r.volume) ≡ batch (cond t 1 0) r.answer r.volume
    go true = refl
    go false = refl

-- where the first order is refused, the list is
pub first_refused : (st : State) (d v : List ℕ) (o : Order) (os : List Order) → length (o ∷ os) ≤ most_orders → (n : ℕ) → (step st v (call_of st d o)).answer ≡ refused n
    → write_orders st d v (o ∷ os) ≡ batch 0 (refused n) v
unfolding writes_from is_success
first_refused st d v o os few n e = rw (within_limit st d v (o ∷ os) few, e, refused_volume st v (call_of st d o) n e)

-- ---- a list in two parts

module _ (st : State) (d : List ℕ) where
  -- the writes of a list, after n that succeeded and m before them
  shifted : (v : List ℕ) (m n : ℕ) (a : Answer) (os : List Order)
      → writes_from st d (m + n) a v os ≡ batch (m + (writes_from st d n a v os).count) (writes_from st d n a v os).last (writes_from st d n a v os).volume
  unfolding writes_from
  shifted v m n a [] = refl
  shifted v m n a (o ∷ os) =
      let next : m + n + 1 ≡ m + (n + 1) = omega arith in
      rw next (go (is_success (step st v (call_of st d o)).answer) (shifted (step st v (call_of st d o)).volume m (n + 1) (step st v (call_of st d o)).answer os))
    where
      r : Result
      r = step st v (call_of st d o)

      later : ℕ → Batch
      later k = writes_from st d k r.answer r.volume os

      go : (t : Bool) → later (m + (n + 1)) ≡ batch (m + (later (n + 1)).count) (later (n + 1)).last (later (n + 1)).volume
          → cond t (later (m + (n + 1))) (batch (m + n) r.answer r.volume)
          ≡ batch (m + (cond t (later (n + 1)) (batch n r.answer r.volume)).count) (cond t (later (n + 1)) (batch n r.answer r.volume)).last (cond t (later (n + 1)) (batch n r.answer r.volume)).volume
      go true k = k
      go false k = refl

  -- the first part, and then the second where the first ended in success
  abbrev go_on : Batch → List Order → Batch
  go_on b os = cond (is_success b.last) (writes_from st d b.count b.last b.volume os) b

  from_parts : (v : List ℕ) (n : ℕ) (a : Answer) (x y : List Order) → is_success a ≡ true → writes_from st d n a v (x ++ y) ≡ go_on (writes_from st d n a v x) y
  unfolding writes_from
  from_parts v n a [] y ok = rw ok
  from_parts v n a (o ∷ x) y ok =
      go (is_success (step st v (call_of st d o)).answer) refl (λ k. from_parts (step st v (call_of st d o)).volume (n + 1) (step st v (call_of st d o)).answer x y k)
    where
      r : Result
      r = step st v (call_of st d o)

      go : (t : Bool) → is_success r.answer ≡ t
          → (is_success r.answer ≡ true → writes_from st d (n + 1) r.answer r.volume (x ++ y) ≡ go_on (writes_from st d (n + 1) r.answer r.volume x) y)
          → cond t (writes_from st d (n + 1) r.answer r.volume (x ++ y)) (batch n r.answer r.volume)
          ≡ go_on (cond t (writes_from st d (n + 1) r.answer r.volume x) (batch n r.answer r.volume)) y
      go true e k = k e
      go false e k = rw e

  -- the writes end with the list, or a first part of it succeeded and the order after that did not
  ends-from : (v : List ℕ) (n : ℕ) (a : Answer) (os : List Order) → is_success a ≡ true
      → ((is_success (writes_from st d n a v os).last ≡ true) × ((writes_from st d n a v os).count ≡ n + length os))
      ⊎ ((x : List Order) × (o : Order) × (y : List Order) × (os ≡ x ++ (o ∷ y)) × (is_success (writes_from st d n a v x).last ≡ true)
      × (is_success (step st (writes_from st d n a v x).volume (call_of st d o)).answer ≡ false))
  unfolding writes_from
  ends-from v n a [] ok = inl (ok, sym (add-zero n))
  ends-from v n a (o ∷ os) ok =
      go (is_success (step st v (call_of st d o)).answer) refl (ends-from (step st v (call_of st d o)).volume (n + 1) (step st v (call_of st d o)).answer os)
    where
      r : Result
      r = step st v (call_of st d o)

      later : List Order → Batch
      later xs = writes_from st d (n + 1) r.answer r.volume xs

      go : (t : Bool) → is_success r.answer ≡ t
          → (is_success r.answer ≡ true
          → ((is_success (later os).last ≡ true) × ((later os).count ≡ n + 1 + length os))
          ⊎ ((x : List Order) × (p : Order) × (y : List Order) × (os ≡ x ++ (p ∷ y)) × (is_success (later x).last ≡ true) × (is_success (step st (later x).volume (call_of st d p)).answer ≡ false)))
          → ((is_success (cond t (later os) (batch n r.answer r.volume)).last ≡ true) × ((cond t (later os) (batch n r.answer r.volume)).count ≡ n + suc (length os)))
          ⊎ ((x : List Order) × (p : Order) × (y : List Order) × (o ∷ os ≡ x ++ (p ∷ y)) × (is_success (writes_from st d n a v x).last ≡ true)
          × (is_success (step st (writes_from st d n a v x).volume (call_of st d p)).answer ≡ false))
      go true e k = more (k e)
        where
          more : ((is_success (later os).last ≡ true) × ((later os).count ≡ n + 1 + length os))
              ⊎ ((x : List Order) × (p : Order) × (y : List Order) × (os ≡ x ++ (p ∷ y)) × (is_success (later x).last ≡ true) × (is_success (step st (later x).volume (call_of st d p)).answer ≡ false))
              → ((is_success (later os).last ≡ true) × ((later os).count ≡ n + suc (length os)))
              ⊎ ((x : List Order) × (p : Order) × (y : List Order) × (o ∷ os ≡ x ++ (p ∷ y)) × (is_success (writes_from st d n a v x).last ≡ true)
              × (is_success (step st (writes_from st d n a v x).volume (call_of st d p)).answer ≡ false))
          more (inl (l, c)) = inl (l, let z : n + 1 + length os ≡ n + suc (length os) = omega arith in c ∙ z)
          more (inr (x, p, y, q, l, f)) = inr (o ∷ x, p, y, ap (λ (xs : List Order). o ∷ xs) q, rw e l, rw e f)
      go false e k = inr ([], o, os, refl, ok, e)

  -- where all writes of a list succeed, so many were counted
  counted-from : (v : List ℕ) (n : ℕ) (a : Answer) (os : List Order) → is_success (writes_from st d n a v os).last ≡ true → (writes_from st d n a v os).count ≡ n + length os
  unfolding writes_from
  counted-from v n a [] e = sym (add-zero n)
  counted-from v n a (o ∷ os) e =
      go (is_success (step st v (call_of st d o)).answer) refl (counted-from (step st v (call_of st d o)).volume (n + 1) (step st v (call_of st d o)).answer os) e
    where
      r : Result
      r = step st v (call_of st d o)

      later : Batch
      later = writes_from st d (n + 1) r.answer r.volume os

      go : (t : Bool) → is_success r.answer ≡ t → (is_success later.last ≡ true → later.count ≡ n + 1 + length os)
          → is_success (cond t later (batch n r.answer r.volume)).last ≡ true → (cond t later (batch n r.answer r.volume)).count ≡ n + suc (length os)
      go true q ih e = let z : n + 1 + length os ≡ n + suc (length os) = omega arith in ih e ∙ z
      go false q ih e = absurd (true≢false (sym e ∙ q))

  module _ (v : List ℕ) (x : List Order) where
    -- a list that did not end in success is the whole of a longer one
    pub ended_first : (y : List Order) → length (x ++ y) ≤ most_orders → length x ≤ most_orders → is_success (write_orders st d v x).last ≡ false
        → write_orders st d v (x ++ y) ≡ write_orders st d v x
    unfolding is_success
    ended_first y all few e =
        let f : is_success (writes_from st d 0 nothing_yet v x).last ≡ false = rw (within_limit st d v x few) at e in
        rw (within_limit st d v (x ++ y) all, within_limit st d v x few) (from_parts v 0 nothing_yet x y refl ∙ rw f)

    module _ (few : length x ≤ most_orders) (e : is_success (write_orders st d v x).last ≡ true) where
      f : is_success (writes_from st d 0 nothing_yet v x).last ≡ true
      f = rw (within_limit st d v x few) at e

      pub all_counted : (write_orders st d v x).count ≡ length x
      all_counted = rw (within_limit st d v x few) (counted-from v 0 nothing_yet x f ∙ zero-add (length x))

      module _ (o : Order) (y : List Order) (all : length (x ++ (o ∷ y)) ≤ most_orders) where
        -- one that did is followed by the rest, on the volume that it left
        pub then_second : length (o ∷ y) ≤ most_orders → let a = write_orders st d v x in
            let b = write_orders st d a.volume (o ∷ y) in
            write_orders st d v (x ++ (o ∷ y)) ≡ batch (a.count + b.count) b.last b.volume
        unfolding is_success writes_from
        then_second rest =
            let a : Batch = writes_from st d 0 nothing_yet v x in
            rw (within_limit st d v (x ++ (o ∷ y)) all, within_limit st d v x few, within_limit st d a.volume (o ∷ y) rest)
            (from_parts v 0 nothing_yet x (o ∷ y) refl ∙ rw f (rw (add-zero a.count) at (shifted a.volume a.count 0 a.last (o ∷ y))))

        -- or, where the next order is refused or short, ended by that
        pub ended_at : let r = step st (write_orders st d v x).volume (call_of st d o) in
            is_success r.answer ≡ false → write_orders st d v (x ++ (o ∷ y)) ≡ batch (length x) r.answer r.volume
        unfolding is_success writes_from
        ended_at g =
            let a : Batch = writes_from st d 0 nothing_yet v x in
            let h : is_success (step st a.volume (call_of st d o)).answer ≡ false = rw (within_limit st d v x few) at g in
            let n : a.count ≡ length x = counted-from v 0 nothing_yet x f ∙ zero-add (length x) in
            rw (within_limit st d v (x ++ (o ∷ y)) all, within_limit st d v x few) (from_parts v 0 nothing_yet x (o ∷ y) refl ∙ rw (f, h, n))

-- a list of at most sixty-four orders succeeds whole, or up to the first order that does not
pub ends : (st : State) (d v : List ℕ) (os : List Order) → length os ≤ most_orders
    → ((is_success (write_orders st d v os).last ≡ true) × ((write_orders st d v os).count ≡ length os))
    ⊎ ((x : List Order) × (o : Order) × (y : List Order) × (os ≡ x ++ (o ∷ y)) × (is_success (write_orders st d v x).last ≡ true)
    × (is_success (step st (write_orders st d v x).volume (call_of st d o)).answer ≡ false))
unfolding is_success
ends st d v os h = go (ends-from st d v 0 nothing_yet os refl)
  where
    go : ((is_success (writes_from st d 0 nothing_yet v os).last ≡ true) × ((writes_from st d 0 nothing_yet v os).count ≡ 0 + length os))
        ⊎ ((x : List Order) × (o : Order) × (y : List Order) × (os ≡ x ++ (o ∷ y)) × (is_success (writes_from st d 0 nothing_yet v x).last ≡ true)
        × (is_success (step st (writes_from st d 0 nothing_yet v x).volume (call_of st d o)).answer ≡ false))
        → ((is_success (write_orders st d v os).last ≡ true) × ((write_orders st d v os).count ≡ length os))
        ⊎ ((x : List Order) × (o : Order) × (y : List Order) × (os ≡ x ++ (o ∷ y)) × (is_success (write_orders st d v x).last ≡ true)
        × (is_success (step st (write_orders st d v x).volume (call_of st d o)).answer ≡ false))
    go (inl (l, c)) = rw (within_limit st d v os h) (inl (l, c ∙ zero-add (length os)))
    go (inr (x, o, y, q, l, f)) =
        let few : length x ≤ most_orders = omega (arith, ap length q, length-append x (o ∷ y)) in
        inr (x, o, y, q, rw (within_limit st d v x few) l, rw (within_limit st d v x few) f)

-- ---- the last answer

-- it is one of a single write, "success and 0", or 2 for too many orders: what holds of these holds of it
module _ (st : State) (d : List ℕ) (P : Answer → Type 0) (each : (w : List ℕ) (b o : ℕ) (new : List ℕ) → P (step st w (write b o new)).answer) where
  last_from : (v : List ℕ) (n : ℕ) (a : Answer) (os : List Order) → P a → P (writes_from st d n a v os).last
  unfolding writes_from
  last_from v n a [] p = p
  last_from v n a (o ∷ os) p =
      let q : P (step st v (call_of st d o)).answer = as_write st d o (λ c. P (step st v c).answer) (each v) in
      go (is_success (step st v (call_of st d o)).answer) q (last_from (step st v (call_of st d o)).volume (n + 1) (step st v (call_of st d o)).answer os q)
    where
      r : Result
      r = step st v (call_of st d o)

      go : (t : Bool) → P r.answer → P (writes_from st d (n + 1) r.answer r.volume os).last
          → P (cond t (writes_from st d (n + 1) r.answer r.volume os) (batch n r.answer r.volume)).last
      go true q k = k
      go false q k = q

  pub last_of : (v : List ℕ) (os : List Order) → P nothing_yet → P (refused 2) → P (write_orders st d v os).last
  unfolding write_orders
  last_of v os begun many = go (ltb most_orders (length os))
    where
      go : (t : Bool) → P (cond t (batch 0 (refused 2) v) (writes_from st d 0 nothing_yet v os)).last
      go true = many
      go false = last_from v 0 nothing_yet os begun

-- ---- bytes that no list changes

-- a byte that no order's write changes stays
module _ (st : State) (d : List ℕ) (i : ℕ) where
  kept_from : (v : List ℕ) (n : ℕ) (a : Answer) (os : List Order)
      → ((w : List ℕ) (j : ℕ) (z : Order) → j < length os → get_or (step st w (call_of st d (get_or os j z))).volume i 0 ≡ get_or w i 0)
      → get_or (writes_from st d n a v os).volume i 0 ≡ get_or v i 0
  unfolding writes_from
  kept_from v n a [] each = refl
  kept_from v n a (o ∷ os) each =
      go (is_success (step st v (call_of st d o)).answer)
      (kept_from (step st v (call_of st d o)).volume (n + 1) (step st v (call_of st d o)).answer os (λ w j z h. each w (suc j) z (omega arith)))
      ∙ each v 0 o (omega arith)
    where
      r : Result
      r = step st v (call_of st d o)

      go : (t : Bool) → get_or (writes_from st d (n + 1) r.answer r.volume os).volume i 0 ≡ get_or r.volume i 0
          → get_or (cond t (writes_from st d (n + 1) r.answer r.volume os) (batch n r.answer r.volume)).volume i 0 ≡ get_or r.volume i 0
      go true k = k
      go false k = refl

  kept : (v : List ℕ) (os : List Order) → ((w : List ℕ) (j : ℕ) (z : Order) → j < length os → get_or (step st w (call_of st d (get_or os j z))).volume i 0 ≡ get_or w i 0)
      → get_or (write_orders st d v os).volume i 0 ≡ get_or v i 0
  unfolding write_orders
  kept v os each = go (ltb most_orders (length os))
    where
      go : (t : Bool) → get_or (cond t (batch 0 (refused 2) v) (writes_from st d 0 nothing_yet v os)).volume i 0 ≡ get_or v i 0
      go true = refl
      go false = kept_from v 0 nothing_yet os each

  -- bytes past the volume's length, those of protected blocks, and those that no order's write counts
  pub orders_past_length : (v : List ℕ) (os : List Order) → st.length ≤ i → get_or (write_orders st d v os).volume i 0 ≡ get_or v i 0
  orders_past_length v os h = kept v os (λ w j z p. past_length_kept st w (call_of st d (get_or os j z)) i h)

  pub orders_protected : (v : List ℕ) (os : List Order) (b : ℕ) → st.protected ≤ b → T (in_block (map_of st) b i) → get_or (write_orders st d v os).volume i 0 ≡ get_or v i 0
  orders_protected v os b h k = kept v os (λ w j z p. protected_kept st w (call_of st d (get_or os j z)) b i h k)

  pub orders_outside : (v : List ℕ) (os : List Order)
      → ((j : ℕ) (z : Order) → j < length os → (e s l r : ℕ) → place (map_of st) (get_or os j z).block ≡ At e s l r
      → s + (get_or os j z).offset ≤ i → i < s + (get_or os j z).offset + count_moved l (get_or os j z).offset (get_or os j z).len → ⊥)
      → get_or (write_orders st d v os).volume i 0 ≡ get_or v i 0
  orders_outside v os out = kept v os (λ w j z p. order_outside st d (get_or os j z) w i (out j z p))
