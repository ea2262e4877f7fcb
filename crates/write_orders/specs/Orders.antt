-- Many writes in one call (document 02, e): "The result is that of single writes in list order up to the first answer that is not success; we get the number that
-- succeeded and the last answer." A single write is a step of the block service, and a list an iteration of `step`. 02's stretch is the part of the data buffer that an order stores.
use Rattle.std.specs.Prelude.{ℕ, zero, suc, ◌+◌, ◌*◌, ◌/◌, ◌<◌, ◌^◌, Bool, cond, List, [], ◌∷◌, ◌++◌, ltb, length, take, drop}
use Rattle.common.specs.Answers.{Answer, refused, success}
use Rattle.numbers.specs.LittleEndian.{le, le_bytes}
use Rattle.volume.specs.BlockMap.{blocks}
use Rattle.volume.specs.State.{map_of}
use Rattle.volume.specs.declared.state.State.{State}
use Rattle.block_service.specs.Service.{Call, write, moved_answer, step}
use Rattle.isolation.specs.Runs.{is_success}
use Rattle.write_orders.specs.declared.Order.{Order}
use Rattle.write_orders.specs.declared.Written.{Written}

-- "up to sixty-four small writes at once"
abbrev pub most_orders : ℕ
most_orders = 64

-- the order's stretch leaves the data buffer d, also an empty one that begins past its end
unfoldable pub leaves : List ℕ → Order → Bool
leaves d o = ltb (length d) (o.first + o.len)

-- the stretch
unfoldable pub stretch : List ℕ → Order → List ℕ
stretch d o = take o.len (drop o.first d)

-- the single write that an order stands for. "2 for an order whose stretch leaves the data buffer, at its turn, after 111, 5 and 15": such an order is a write to
-- the block after the last, which is refused with 111, 5, 15 and 2 in this order and stores nothing
unfoldable pub call_of : State → List ℕ → Order → Call
call_of st d o = cond (leaves d o) (write (blocks (map_of st)) 0 []) (write o.block o.offset (stretch d o))

-- the result of a list: how many writes succeeded, the last answer, and the volume afterwards
pub record Batch : Type 0 where
  pub count : ℕ
  pub last : Answer
  pub volume : List ℕ

abbrev pub batch : ℕ → Answer → List ℕ → Batch
batch count last volume = record { count = count; last = last; volume = volume }

-- the single writes of the orders, after n that succeeded, of which the last answered a
unfoldable pub writes_from : State → List ℕ → ℕ → Answer → List ℕ → List Order → Batch
writes_from st d n a v [] = batch n a v
writes_from st d n a v (o ∷ os) =
    let r = step st v (call_of st d o) in
    let later = writes_from st d (n + 1) r.answer r.volume os in
    cond (is_success r.answer) later (batch n r.answer r.volume)

-- before the first order: "success and 0"
abbrev pub nothing_yet : Answer
nothing_yet = success (0 ∷ [])

-- the orders os with the data buffer d on the volume v. "2 for more than sixty-four orders, before all else; next, before 111, an empty list answers success and 0"
unfoldable pub write_orders : State → List ℕ → List ℕ → List Order → Batch
write_orders st d v os = cond (ltb most_orders (length os)) (batch 0 (refused 2) v) (writes_from st d 0 nothing_yet v os)

-- the first `used` orders of an array of sixty-four; more than it has are more than sixty-four
unfoldable pub write_array : State → List ℕ → List ℕ → List Order → ℕ → Batch
write_array st d v array used = cond (ltb most_orders used) (batch 0 (refused 2) v) (write_orders st d v (take used array))

-- orders that come as bytes, 32 to an order; a part of an order at the end is ignored, as a part word of an erase list is (02, m)
abbrev pub order_bytes : ℕ
order_bytes = 32

-- order i: four little-endian numbers of 64 bits
unfoldable pub order_at : List ℕ → ℕ → Order
order_at s i =
    let at = order_bytes * i in
    record { block = le 8 s at; offset = le 8 s (at + 8); first = le 8 s (at + 16); len = le 8 s (at + 24) }

unfoldable pub orders_from : ℕ → List ℕ → ℕ → List Order
orders_from zero s i = []
orders_from (suc k) s i = order_at s i ∷ orders_from k s (i + 1)

unfoldable pub orders_in : List ℕ → List Order
orders_in s = orders_from (length s / order_bytes) s 0

-- for the theorems: the bytes of an order, and of a list of them
unfoldable pub bytes_of : Order → List ℕ
bytes_of o = le_bytes 8 o.block ++ (le_bytes 8 o.offset ++ (le_bytes 8 o.first ++ le_bytes 8 o.len))

unfoldable pub list_bytes : List Order → List ℕ
list_bytes [] = []
list_bytes (o ∷ os) = bytes_of o ++ list_bytes os

-- for the theorems: an order's numbers have 64 bits
abbrev pub Typed : Order → Type 0
Typed o = (o.block < 2 ^ 64) × (o.offset < 2 ^ 64) × (o.first < 2 ^ 64) × (o.len < 2 ^ 64)

-- the result that the code's answer stands for, with the volume
unfoldable pub written_of : Written → List ℕ → Batch
written_of w v = batch w.count (moved_answer w.last) v

-- for the theorems: the number of writes that succeeded after one more
unfoldable pub counted : Answer → ℕ → ℕ
counted a n = cond (is_success a) (n + 1) n
