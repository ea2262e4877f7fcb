-- What a reader of document 02's request e may want to know of many writes in one call, beyond the contracts of src/: each theorem with 02's words.
use Prim.Native.Nat.{ℕ, ◌+◌, ◌≤◌, ◌<◌}
use mathlib.Core.Bool.{true, false}
use mathlib.Core.List.{List, [], ◌∷◌, ◌++◌, map}
use mathlib.Core.Logic.{◌⊎◌}
use mathlib.Core.Path.{◌≡◌, sym, ap, ◌∙◌}
use native.Mathlib.Omega.{arith}
use lib.Dec.{T}
use lib.ListN.{length, get_or, length-append}
use Rattle.common.specs.Answers.{refused, success, short}
use Rattle.volume.specs.Attributes.{flag, write_status}
use Rattle.volume.specs.BlockMap.{blocks}
use Rattle.volume.specs.Header.{open_volume, opened}
use Rattle.volume.specs.State.{map_of, unlawful}
use Rattle.volume.specs.declared.state.State.{State}
use Rattle.block_service.specs.Access.{count_moved}
use Rattle.block_service.specs.Blocks.{place, in_block}
use Rattle.block_service.specs.Service.{write, result_of, step}
use Rattle.block_service.specs.Blocks.{At}
use Rattle.block_service.proofs.Theorems as service
use Rattle.block_service.proofs.service.Steps as steps
use Rattle.isolation.specs.Runs.{is_success, run, Alike, NoEarlyRead}
use Rattle.isolation.proofs.Theorems as isolation
use Rattle.write_orders.specs.Orders.{stretch, call_of, batch, writes_from, write_orders, counted, orders_in, list_bytes, Typed}
use Rattle.write_orders.specs.Requests.{made_of, Request, serve, calls_of, ServedAlike}
use Rattle.write_orders.specs.declared.Order.{Order}
use Rattle.write_orders.proofs.OrderBytes as bytes
use Rattle.write_orders.proofs.Lists as lists
use Rattle.write_orders.proofs.Requests as requests
use Rattle.write_orders.proofs.Turns as turns

-- ---- before the first order

-- "2 for more than sixty-four orders, before all else": whatever the state, the volume and the orders
pub too_many : (st : State) (d v : List ℕ) (os : List Order) → 64 < length os → write_orders st d v os ≡ batch 0 (refused 2) v
too_many = lists.too_many

-- "next, before 111, an empty list answers success and 0"
pub empty_list : (st : State) (d v : List ℕ) → write_orders st d v [] ≡ batch 0 (success (0 ∷ [])) v
unfolding writes_from
empty_list st d v = lists.within_limit st d v [] (omega arith)

-- ---- one order's turn: the order of its refusals. `call_of` is the single write that it stands for

module _ (st : State) (d v : List ℕ) (o : Order) where
  -- 111 first
  pub order_111 : unlawful st ≡ true → step st v (call_of st d o) ≡ result_of (refused 111) st v []
  order_111 e = sym (turns.lent_refused st d o v 111 (steps.lent_111 st (length v) write_status e))

  module _ (ok : unlawful st ≡ false) where
    -- then 5
    pub order_5 : length v < st.length → step st v (call_of st d o) ≡ result_of (refused 5) st v []
    order_5 h = sym (turns.lent_refused st d o v 5 (steps.lent_5 st (length v) write_status ok h))

    module _ (long : st.length ≤ length v) where
      -- then 15 where writes are disabled
      pub order_15 : flag st.attributes write_status ≡ false → step st v (call_of st d o) ≡ result_of (refused 15) st v []
      order_15 off = sym (turns.lent_refused st d o v 15 (steps.lent_15 st (length v) write_status ok long off))

      -- "2 for an order whose stretch leaves the data buffer, at its turn, after 111, 5 and 15", whatever its block: also one that is not there or is protected
      pub order_stretch : flag st.attributes write_status ≡ true → length d < o.first + o.len → step st v (call_of st d o) ≡ result_of (refused 2) st v []
      order_stretch on h = sym (turns.bad_stretch st d o v (steps.lent_passes st (length v) write_status ok long on) h)

      module _ (on : flag st.attributes write_status ≡ true) (good : o.first + o.len ≤ length d) where
        -- then 2 for a block that is not there
        pub order_2 : blocks (map_of st) ≤ o.block → step st v (call_of st d o) ≡ result_of (refused 2) st v []
        order_2 h = rw (turns.stretch_lies st d o good) ((service.order_2_write st v ok long on).0 o.block o.offset (stretch d o) h)

        -- and last 15 for one that is protected
        pub order_protected : o.block < blocks (map_of st) → st.protected ≤ o.block → step st v (call_of st d o) ≡ result_of (refused 15) st v []
        order_protected h p = rw (turns.stretch_lies st d o good) ((service.order_15_protected st v ok long on).0 o.block o.offset (stretch d o) h p)

  -- an order whose stretch lies in the data is the write of that stretch
  pub order_write : o.first + o.len ≤ length d → call_of st d o ≡ write o.block o.offset (stretch d o)
  order_write = turns.stretch_lies st d o

-- ---- a list of them

-- a list of one order whose stretch lies in the data is that write, counted where it succeeded
pub one_order : (st : State) (d v : List ℕ) (o : Order) → o.first + o.len ≤ length d
    → let r = step st v (write o.block o.offset (stretch d o)) in
    write_orders st d v (o ∷ []) ≡ batch (counted r.answer 0) r.answer r.volume
one_order = lists.one_order

-- where the first order is refused, so is the list, and nothing changes
pub first_refused : (st : State) (d v : List ℕ) (o : Order) (os : List Order) → length (o ∷ os) ≤ 64 → (n : ℕ) → (step st v (call_of st d o)).answer ≡ refused n
    → write_orders st d v (o ∷ os) ≡ batch 0 (refused n) v
first_refused = lists.first_refused

-- "The result is that of single writes in list order up to the first answer that is not success": every write of a list succeeds and is counted, or those of a first part do, and
-- the order after it does not. `order_refused` and `order_short` say what then stands
pub list_ends : (st : State) (d v : List ℕ) (os : List Order) → length os ≤ 64
    → ((is_success (write_orders st d v os).last ≡ true) × ((write_orders st d v os).count ≡ length os))
    ⊎ ((x : List Order) × (o : Order) × (y : List Order) × (os ≡ x ++ (o ∷ y)) × (is_success (write_orders st d v x).last ≡ true)
    × (is_success (step st (write_orders st d v x).volume (call_of st d o)).answer ≡ false))
list_ends = lists.ends

module _ (st : State) (d v : List ℕ) (x y : List Order) (o : Order) (few : length (x ++ (o ∷ y)) ≤ 64) where
  few_first : length x ≤ 64
  few_first = omega (arith, length-append x (o ∷ y))

  few_second : length (o ∷ y) ≤ 64
  few_second = omega (arith, length-append x (o ∷ y))

  -- a list in two parts, the second not empty: where the first did not end in success, that is all
  pub first_ended : is_success (write_orders st d v x).last ≡ false → write_orders st d v (x ++ (o ∷ y)) ≡ write_orders st d v x
  first_ended = lists.ended_first st d v x (o ∷ y) few few_first

  module _ (all : is_success (write_orders st d v x).last ≡ true) where
    -- and where it did, the second follows on the volume that the first left
    pub then_second : let a = write_orders st d v x in
        let b = write_orders st d a.volume (o ∷ y) in
        write_orders st d v (x ++ (o ∷ y)) ≡ batch (a.count + b.count) b.last b.volume
    then_second = lists.then_second st d v x few_first all o y few few_second

    -- "What was stored before a refusal stays", and nothing else changes
    pub order_refused : (n : ℕ) → (step st (write_orders st d v x).volume (call_of st d o)).answer ≡ refused n
        → write_orders st d v (x ++ (o ∷ y)) ≡ batch (length x) (refused n) (write_orders st d v x).volume
    unfolding is_success
    order_refused n e =
        let w : List ℕ = (write_orders st d v x).volume in
        let kept : (step st w (call_of st d o)).volume ≡ w = lists.refused_volume st w (call_of st d o) n e in
        lists.ended_at st d v x few_first all o y few (ap is_success e) ∙ rw (e, kept)

    -- a short write ends the list and is not counted; its bytes stay
    pub order_short : (values : List ℕ) → (step st (write_orders st d v x).volume (call_of st d o)).answer ≡ short values
        → write_orders st d v (x ++ (o ∷ y)) ≡ batch (length x) (short values) (step st (write_orders st d v x).volume (call_of st d o)).volume
    unfolding is_success
    order_short values e = lists.ended_at st d v x few_first all o y few (ap is_success e) ∙ rw e

-- ---- what no list changes

-- the lent volume's length; bytes past the state's length; bytes of protected blocks
pub length_kept : (st : State) (d v : List ℕ) (os : List Order) → length (write_orders st d v os).volume ≡ length v
length_kept = requests.orders_length

pub past_length_kept : (st : State) (d v : List ℕ) (os : List Order) (i : ℕ) → st.length ≤ i → get_or (write_orders st d v os).volume i 0 ≡ get_or v i 0
past_length_kept st d v os i = lists.orders_past_length st d i v os

pub protected_kept : (st : State) (d v : List ℕ) (os : List Order) (b i : ℕ) → st.protected ≤ b → T (in_block (map_of st) b i)
    → get_or (write_orders st d v os).volume i 0 ≡ get_or v i 0
protected_kept st d v os b i = lists.orders_protected st d i v os b

-- and every byte that lies in no order's stretch of its block, which starts at byte s and has length l
pub outside_kept : (st : State) (d v : List ℕ) (os : List Order) (i : ℕ)
    → ((j : ℕ) (z : Order) → j < length os → (e s l r : ℕ) → place (map_of st) (get_or os j z).block ≡ At e s l r
    → s + (get_or os j z).offset ≤ i → i < s + (get_or os j z).offset + count_moved l (get_or os j z).offset (get_or os j z).len → ⊥)
    → get_or (write_orders st d v os).volume i 0 ≡ get_or v i 0
outside_kept st d v os i = lists.orders_outside st d i v os

-- ---- orders that come as bytes

-- the bytes of a list hold that list, and "a part word at the end is ignored" (02, m), so also a part of an order
pub orders_back : (os : List Order) (part : List ℕ) → ((j : ℕ) (z : Order) → j < length os → Typed (get_or os j z)) → length part < 32 → orders_in (list_bytes os ++ part) ≡ os
orders_back = bytes.orders_back

-- ---- demand 3

-- the single writes that were made: none of a list that is too long; all of one in which all succeed; otherwise those up to the first that does not, and that one
pub made_none : (st : State) (d v : List ℕ) (os : List Order) → 64 < length os → made_of st d v os ≡ []
made_none = requests.made_none

pub made_all : (st : State) (d v : List ℕ) (os : List Order) → length os ≤ 64 → is_success (write_orders st d v os).last ≡ true → made_of st d v os ≡ map (call_of st d) os
made_all = requests.made_all

pub made_up_to : (st : State) (d v : List ℕ) (x y : List Order) (o : Order) → length (x ++ (o ∷ y)) ≤ 64 → is_success (write_orders st d v x).last ≡ true
    → is_success (step st (write_orders st d v x).volume (call_of st d o)).answer ≡ false → made_of st d v (x ++ (o ∷ y)) ≡ map (call_of st d) (x ++ (o ∷ []))
made_up_to st d v x y o few = requests.made_up_to st d v x o y few (omega (arith, length-append x (o ∷ y)))

-- a list leaves what they leave: the volume, and the state
pub list_run : (st : State) (d v : List ℕ) (os : List Order) → run st v (made_of st d v os) ≡ record { state = st; volume = (write_orders st d v os).volume }
list_run = requests.made_run

-- and so requests leave what the single calls leave that they stand for
pub requests_run : (st : State) (v : List ℕ) (rs : List Request) → run st v (calls_of st v rs) ≡ serve st v rs
requests_run = requests.calls_run

-- "Demand 3 takes the call as its single writes": demand 3, of any list of calls and lists of orders. No read among them that starts in one of those blocks may answer success or short
-- too early; `ServedAlike` says what is then the same
pub demand_3_lists : (D : ℕ → Type 0) (base : ℕ) (st : State) (v w : List ℕ) (rs : List Request)
    → open_volume v base ≡ opened st → open_volume w base ≡ opened st
    → length v ≡ length w → Alike (map_of st) D v w → NoEarlyRead D st v (calls_of st v rs) → ServedAlike D st v w rs
demand_3_lists D base st v w rs ov ow e alike early = requests.served_alike D st v w rs e (isolation.demand_3 D base st v w (calls_of st v rs) ov ow e alike early)

-- the same of any state
pub isolated_lists : (D : ℕ → Type 0) (st : State) (v w : List ℕ) (rs : List Request) → length v ≡ length w → Alike (map_of st) D v w → NoEarlyRead D st v (calls_of st v rs)
    → ServedAlike D st v w rs
isolated_lists D st v w rs e alike early = requests.served_alike D st v w rs e (isolation.isolated D st v w (calls_of st v rs) e alike early)
