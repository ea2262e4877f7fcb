-- Many writes in one call (02, e) by computation, on sample A, which has sticky write and erases to ones. The data buffer has three bytes. One record, a field for each row, and its one proof.
use Prim.Native.Nat.{ℕ}
use mathlib.Core.List.{List, [], ◌∷◌}
use mathlib.Core.Path.{◌≡◌, refl}
use lib.ListN.{set, replicate}
use Rattle.common.specs.Answers.{refused, success, short}
use Rattle.numbers.specs.LittleEndian.{le}
use Rattle.volume.specs.declared.state.State.{State}
use Rattle.block_service.specs.Service.{get_attributes, write, with_attributes, with_protected}
use Rattle.isolation.specs.Runs.{is_success}
use Rattle.write_orders.specs.Orders.{Batch, batch, leaves, stretch, call_of, writes_from, write_orders, write_array, order_at, orders_from, orders_in}
use Rattle.write_orders.specs.Requests.{call, orders, writes_of, made_of, calls_of}
use Rattle.write_orders.specs.declared.Order.{Order}
use Rattle.table.specs.SampleA.{sample_a}
use Rattle.table.proofs.Instances.{state_a}
use Rattle.table.proofs.Table.{opening, judging, moving, calling}

unfoldable pub buffer : List ℕ
buffer = 0x0F ∷ 0xF0 ∷ 0xAA ∷ []

-- an order: block, offset, first byte and length of the stretch
abbrev order : ℕ → ℕ → ℕ → ℕ → Order
order b o f n = record { block = b; offset = o; first = f; len = n }

abbrev on_a : List Order → Batch
on_a os = write_orders state_a buffer sample_a os

-- with block 3 protected, with writes disabled, and a state that is not lawful
abbrev guarded : State
guarded = with_protected state_a 3

abbrev disabled : State
disabled = with_attributes state_a 0x0E1F

abbrev unlawful_a : State
unlawful_a = with_protected state_a 5

-- the list of one order is refused with the number, and the volume stays
abbrev Refuses : State → Order → ℕ → Type 0
Refuses st o n = write_orders st buffer sample_a (o ∷ []) ≡ batch 0 (refused n) sample_a

pub record Orders : Type 0 where
  -- a mask over one that was never erased: the bits of both run together
  pub merged : on_a (order 2 0 0 1 ∷ order 2 0 1 1 ∷ []) ≡ batch 2 (success (1 ∷ [])) (set sample_a 1024 0x00)
  -- the second order is refused: what the first stored stays, and the third is not carried out
  pub refused_second : on_a (order 2 0 0 1 ∷ order 4 0 0 1 ∷ order 2 1 1 1 ∷ []) ≡ batch 1 (refused 2) (set sample_a 1024 0x0F)
  -- the second is short, three bytes at the last two of block 1: its bytes stay, and it is not counted
  pub short_second : on_a (order 2 0 0 1 ∷ order 1 510 0 3 ∷ order 2 1 1 1 ∷ []) ≡ batch 1 (short (2 ∷ [])) (set (set (set sample_a 1024 0x0F) 1022 0x0F) 1023 0xF0)
  -- more than sixty-four orders, and none: before 111
  pub too_many : write_orders unlawful_a buffer sample_a (replicate 65 (order 2 0 0 1)) ≡ batch 0 (refused 2) sample_a
  pub no_order : write_orders unlawful_a buffer sample_a [] ≡ batch 0 (success (0 ∷ [])) sample_a
  -- stretches: to the end of the data, one past it, none at the end, none past it, and sums past 64 bits
  pub to_the_end : on_a (order 2 0 2 1 ∷ []) ≡ batch 1 (success (1 ∷ [])) (set sample_a 1024 0xAA)
  pub past_the_end : Refuses state_a (order 2 0 2 2) 2
  pub none_at_end : on_a (order 2 0 3 0 ∷ []) ≡ batch 1 (success (0 ∷ [])) sample_a
  pub none_past_end : Refuses state_a (order 2 0 4 0) 2
  pub sum_past_64 : Refuses state_a (order 2 0 0xFFFFFFFFFFFFFFFF 1) 2
  pub length_past_64 : Refuses state_a (order 2 0 1 0xFFFFFFFFFFFFFFFF) 2
  -- a bad stretch is 2 whatever the block, and after 111, 5 and 15
  pub stretch_protected : Refuses guarded (order 3 0 4 1) 2
  pub stretch_missing : Refuses state_a (order 9 0 4 1) 2
  pub stretch_disabled : Refuses disabled (order 2 0 4 1) 15
  pub stretch_short_volume : write_orders state_a buffer [] (order 2 0 4 1 ∷ []) ≡ batch 0 (refused 5) []
  pub stretch-unlawful : Refuses unlawful_a (order 2 0 4 1) 111
  -- a good one: 15 for the protected block, 2 for the missing one
  pub block_protected : Refuses guarded (order 3 0 0 1) 15
  pub block_missing : Refuses guarded (order 4 0 0 1) 2
  -- the first orders of an array, and more than it has
  pub array_two : write_array state_a buffer sample_a (order 2 0 0 1 ∷ order 2 0 1 1 ∷ replicate 62 (order 4 0 0 0)) 2 ≡ batch 2 (success (1 ∷ [])) (set sample_a 1024 0x00)
  pub array_past : write_array state_a buffer sample_a (replicate 64 (order 2 0 0 1)) 65 ≡ batch 0 (refused 2) sample_a
  -- orders as bytes; a part of one at the end is ignored
  pub as_bytes : orders_in (2 ∷ 0 ∷ 0 ∷ 0 ∷ 0 ∷ 0 ∷ 0 ∷ 0 ∷ 0xFE ∷ 1 ∷ 0 ∷ 0 ∷ 0 ∷ 0 ∷ 0 ∷ 0 ∷ 1 ∷ 0 ∷ 0 ∷ 0 ∷ 0 ∷ 0 ∷ 0 ∷ 0 ∷ 2 ∷ 0 ∷ 0 ∷ 0 ∷ 0 ∷ 0 ∷ 0 ∷ 0 ∷ replicate 31 0xFF)
      ≡ order 2 510 1 2 ∷ []
  -- the single calls that requests stand for: the writes that were made, the short one too, and not the one after it
  pub single_calls : calls_of state_a sample_a (orders buffer (order 2 0 0 1 ∷ order 1 510 0 3 ∷ order 2 1 1 1 ∷ []) ∷ call get_attributes ∷ [])
      ≡ write 2 0 (0x0F ∷ []) ∷ write 1 510 (0x0F ∷ 0xF0 ∷ 0xAA ∷ []) ∷ get_attributes ∷ []

ordering : Unit {0}
unfolding buffer leaves stretch call_of writes_from write_orders write_array order_at orders_from orders_in is_success le
ordering = tt

requesting : Unit {0}
unfolding writes_of made_of calls_of
requesting = tt

pub orders_on_a : Orders
unfolding opening judging moving calling state_a with_attributes with_protected ordering requesting
orders_on_a =
    record {
      merged = refl;
      refused_second = refl;
      short_second = refl;
      too_many = refl;
      no_order = refl;
      to_the_end = refl;
      past_the_end = refl;
      none_at_end = refl;
      none_past_end = refl;
      sum_past_64 = refl;
      length_past_64 = refl;
      stretch_protected = refl;
      stretch_missing = refl;
      stretch_disabled = refl;
      stretch_short_volume = refl;
      stretch-unlawful = refl;
      block_protected = refl;
      block_missing = refl;
      array_two = refl;
      array_past = refl;
      as_bytes = refl;
      single_calls = refl;
    }
