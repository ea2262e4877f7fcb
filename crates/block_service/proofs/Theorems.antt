-- What a reader of documents 01 and 02 may want to know of the block service, beyond the contracts of src/: each theorem with the document's words, in 01's order.
-- `step st v c` is the call c on the state st and the lent volume v; its result has the answer, and the state, the volume and the reader's buffer
-- afterwards. The proofs are citations; the laws stand under the module of src/ that they serve.
use Prim.Native.Nat.{ℕ, ◌+◌, ◌-◌, ◌*◌, ◌/◌, ◌%◌, ◌^◌, ◌≤◌, ◌<◌}
use mathlib.Core.Bool.{true, false, not, cond, ◌&&◌}
use mathlib.Core.List.{List, [], ◌∷◌, ◌++◌}
use mathlib.Core.Option.{none, some}
use mathlib.Core.Path.{◌≡◌, sym}
use lib.Bits.{bit_and, bit_or}
use lib.Dec.{T, leb, ltb}
use lib.ListN.{length, get_or, take, drop}
use Rattle.common.specs.Answers.{refused, success, short}
use Rattle.common.specs.Lists.{edit}
use Rattle.common.specs.Refusals.{first_refusal, row}
use Rattle.common.proofs.Bits.{bit}
use Rattle.numbers.specs.LittleEndian.{le}
use Rattle.volume.specs.Attributes.{flag, read_status, write_status, lock_status, read_lock_status, write_lock_status, sticky_write, memory_mapped, erase_polarity}
use Rattle.volume.specs.BlockMap.{blocks, bytes}
use Rattle.volume.specs.State.{map_of, unlawful}
use Rattle.volume.specs.declared.state.State.{State}
use Rattle.block_service.specs.Access.{count_moved, written_byte, erased_byte, changed_byte, write_change}
use Rattle.block_service.specs.Blocks.{place, HasLength, start_of, consecutive_blocks, in_block, block_at}
use Rattle.block_service.specs.Erase.{end_of_list, good_list, names, reaches, erase_change, list_words}
use Rattle.block_service.specs.Judged.{stored, judged_write}
use Rattle.block_service.specs.Order.{up_from, member, firsts, part, named_blocks, bytes_of, erase_order, job_given, carry_change, finishes}
use Rattle.block_service.specs.Service.{Call, get_attributes, get_physical_address, set_attributes, get_block_size, read, write, erase_blocks, protect_blocks, accept_erase, carry_erase, carry_answer}
use Rattle.block_service.specs.Service.{lent_refusals, refusals, move_answer, with_attributes, with_protected, result_of, buffer_of, step}
use Rattle.settings.specs.Settings.{status_bits, changes_fixed, changes_locked, lacks_capability}
use Rattle.block_service.specs.Blocks.{At}
use Rattle.block_service.proofs.access.Moves as Moves
use Rattle.block_service.proofs.blocks.Places as Places
use Rattle.block_service.proofs.carry.Orders as Orders
use Rattle.block_service.proofs.erase.ByteLists as ByteLists
use Rattle.block_service.proofs.erase.Lists as Lists
use Rattle.block_service.proofs.blocks.Runs as Runs
use Rattle.block_service.proofs.judged.Reaches as Reaches
use Rattle.settings.proofs.Rules as Rules
use Rattle.block_service.proofs.service.Erasing as Erasing
use Rattle.block_service.proofs.service.Jobs as Jobs
use Rattle.block_service.proofs.service.Kept as Kept
use Rattle.block_service.proofs.service.Moving as Moving
use Rattle.block_service.proofs.service.Protecting as Protecting
use Rattle.block_service.proofs.service.Setting as Setting
use Rattle.block_service.proofs.service.Sizes as Sizes
use Rattle.block_service.proofs.service.Steps as Steps

-- ---- the state

-- "Later calls follow the state and never read the header again, even after a write or erase over it": on volumes of one length a call answers the
-- same and leaves the same state, whatever their bytes
pub follows_state : (st : State) (v w : List ℕ) (c : Call) → length v ≡ length w
    → ((step st v c).answer ≡ (step st w c).answer) × ((step st v c).state ≡ (step st w c).state)
follows_state = Kept.follows_state

-- "Settings live in the state; setting them stores nothing in the volume"
pub set_stores_nothing : (st : State) (v : List ℕ) (new : ℕ) → (step st v (set_attributes new)).volume ≡ v
set_stores_nothing = Setting.set_stores_nothing

-- ---- refusals

-- "given exactly when", "first that applies": a call is refused with a number exactly where that is the number of the first row of its table that applies
pub refused_exactly : (st : State) (v : List ℕ) (c : Call) (n : ℕ)
    → ((step st v c).answer ≡ refused n → first_refusal (refusals st (length v) c) ≡ some n)
    × (first_refusal (refusals st (length v) c) ≡ some n → (step st v c).answer ≡ refused n)
refused_exactly = Steps.refused_exactly

-- "Service calls use 111, then 5, then 15, then 2": 111 first, at every call
pub order_111 : (st : State) (v : List ℕ) (c : Call) → unlawful st ≡ true → step st v c ≡ result_of (refused 111) st v (buffer_of c)
order_111 st v c e = sym (Steps.unlawful-step st v c e)

-- then 5: "lent volume shorter than the state's length"
pub order_5 : (st : State) (v : List ℕ) → unlawful st ≡ false → length v < st.length
    → ((b o : ℕ) (buffer : List ℕ) → step st v (read b o buffer) ≡ result_of (refused 5) st v buffer)
    × ((b o : ℕ) (new : List ℕ) → step st v (write b o new) ≡ result_of (refused 5) st v [])
    × ((list : List ℕ) → step st v (erase_blocks list) ≡ result_of (refused 5) st v [])
order_5 = Steps.order_5

-- then 15: "reads or writes disabled"
pub order_15_read : (st : State) (v : List ℕ) → unlawful st ≡ false → st.length ≤ length v → flag st.attributes read_status ≡ false
    → (b o : ℕ) (buffer : List ℕ) → step st v (read b o buffer) ≡ result_of (refused 15) st v buffer
order_15_read = Steps.order_15_read

pub order_15_write : (st : State) (v : List ℕ) → unlawful st ≡ false → st.length ≤ length v → flag st.attributes write_status ≡ false
    → ((b o : ℕ) (new : List ℕ) → step st v (write b o new) ≡ result_of (refused 15) st v [])
    × ((list : List ℕ) → step st v (erase_blocks list) ≡ result_of (refused 15) st v [])
order_15_write = Steps.order_15_write

-- then 2: "no such block, bad erase list"
pub order_2_read : (st : State) (v : List ℕ) → unlawful st ≡ false → st.length ≤ length v → flag st.attributes read_status ≡ true
    → (b o : ℕ) (buffer : List ℕ) → blocks (map_of st) ≤ b → step st v (read b o buffer) ≡ result_of (refused 2) st v buffer
order_2_read = Steps.order_2_read

pub order_2_write : (st : State) (v : List ℕ) → unlawful st ≡ false → st.length ≤ length v → flag st.attributes write_status ≡ true
    → ((b o : ℕ) (new : List ℕ) → blocks (map_of st) ≤ b → step st v (write b o new) ≡ result_of (refused 2) st v [])
    × ((list : List ℕ) → good_list (blocks (map_of st)) list ≡ false → step st v (erase_blocks list) ≡ result_of (refused 2) st v [])
order_2_write = Steps.order_2_write

pub order_2_size : (st : State) (v : List ℕ) (b : ℕ) → unlawful st ≡ false → blocks (map_of st) ≤ b
    → step st v (get_block_size b) ≡ result_of (refused 2) st v []
order_2_size = Steps.order_2_size

-- then, "after every 2", 15 "for a protected block written or anywhere in the erase list" (02, j): with writes enabled, any write that starts in a protected
-- block, one of no bytes too, and any good list that names one
pub order_15_protected : (st : State) (v : List ℕ) → unlawful st ≡ false → st.length ≤ length v → flag st.attributes write_status ≡ true
    → ((b o : ℕ) (new : List ℕ) → b < blocks (map_of st) → st.protected ≤ b → step st v (write b o new) ≡ result_of (refused 15) st v [])
    × ((list : List ℕ) → good_list (blocks (map_of st)) list ≡ true → (b : ℕ) → T (names list b) → st.protected ≤ b
    → step st v (erase_blocks list) ≡ result_of (refused 15) st v [])
order_15_protected = Steps.order_15_protected

-- no row applies: with a lawful state, the volume lent whole, reads enabled and a block that is there, a read is not refused; it answers the count and
-- fills the buffer by the block's place, and the state and the volume stay
pub read_allowed : (st : State) (v : List ℕ) → unlawful st ≡ false → st.length ≤ length v → flag st.attributes read_status ≡ true
    → (b o : ℕ) (buffer : List ℕ) → b < blocks (map_of st)
    → ((n : ℕ) → (step st v (read b o buffer)).answer ≡ refused n → ⊥)
    × ((e : ℕ) × (s : ℕ) × (l : ℕ) × (r : ℕ) × (place (map_of st) b ≡ At e s l r)
    × (step st v (read b o buffer)
    ≡ result_of (move_answer (count_moved l o (length buffer)) (length buffer)) st v
    (take (count_moved l o (length buffer)) (drop (s + o) v) ++ drop (count_moved l o (length buffer)) buffer)))
read_allowed = Moving.read_allowed

-- with writes enabled neither is a write, of a block that is not protected; it answers the count and changes the bytes of its stretch, and the state stays
pub write_allowed : (st : State) (v : List ℕ) → unlawful st ≡ false → st.length ≤ length v → flag st.attributes write_status ≡ true
    → (b o : ℕ) (new : List ℕ) → b < st.protected
    → ((n : ℕ) → (step st v (write b o new)).answer ≡ refused n → ⊥)
    × ((e : ℕ) × (s : ℕ) × (l : ℕ) × (r : ℕ) × (place (map_of st) b ≡ At e s l r)
    × (step st v (write b o new)
    ≡ result_of (move_answer (count_moved l o (length new)) (length new)) st
    (edit (λ i old. changed_byte st.attributes (write_change (s + o) (count_moved l o (length new)) new i) old) 0 v) []))
write_allowed = Moving.write_allowed

-- and an erase with a good list that names no protected block succeeds
pub erase_allowed : (st : State) (v list : List ℕ) → unlawful st ≡ false → st.length ≤ length v → flag st.attributes write_status ≡ true
    → good_list (blocks (map_of st)) list ≡ true → ((b : ℕ) → T (names list b) → b < st.protected)
    → step st v (erase_blocks list)
    ≡ result_of (success []) st (edit (λ i old. changed_byte st.attributes (erase_change (map_of st) list i) old) 0 v) []
erase_allowed = Erasing.erase_allowed

-- the calls that are not lent the volume, of a lawful state: the settings are read
pub settings_read : (st : State) (v : List ℕ) → unlawful st ≡ false → step st v get_attributes ≡ result_of (success (st.attributes ∷ [])) st v []
settings_read = Steps.settings_read

-- the size of a block that is there is answered: its length, and the number of consecutive blocks of that length from it on
pub size_answered : (st : State) (v : List ℕ) (b : ℕ) → unlawful st ≡ false → b < blocks (map_of st)
    → (l : ℕ) × HasLength (place (map_of st) b) l × (step st v (get_block_size b) ≡ result_of (success (l ∷ consecutive_blocks (map_of st) b ∷ [])) st v [])
size_answered = Sizes.size_answered

-- "the base address uses 111, then 3"
pub order_3 : (st : State) (v : List ℕ) → unlawful st ≡ false → flag st.attributes memory_mapped ≡ false
    → step st v get_physical_address ≡ result_of (refused 3) st v []
order_3 = Steps.order_3

-- and the base address of a volume that is memory mapped is answered
pub address_read : (st : State) (v : List ℕ) → unlawful st ≡ false → flag st.attributes memory_mapped ≡ true
    → step st v get_physical_address ≡ result_of (success (st.base ∷ [])) st v []
address_read = Steps.address_read

-- "A refusal carries no value but its number; the state stays, and no lent byte changes"
pub refused_changes_nothing : (st : State) (v : List ℕ) (c : Call) (n : ℕ) → (step st v c).answer ≡ refused n
    → step st v c ≡ result_of (refused n) st v (buffer_of c)
refused_changes_nothing = Steps.refused_changes_nothing

-- "Volume bytes past the state's length never change"
pub past_length_kept : (st : State) (v : List ℕ) (c : Call) (i : ℕ) → st.length ≤ i → get_or (step st v c).volume i 0 ≡ get_or v i 0
past_length_kept = Kept.past_length_kept

-- nor do the length of the lent volume, the map, the edition, the erase value, and that the state breaks no rule
pub length_kept : (st : State) (v : List ℕ) (c : Call) → length (step st v c).volume ≡ length v
length_kept = Kept.length_kept

pub map_kept : (st : State) (v : List ℕ) (c : Call) → map_of (step st v c).state ≡ map_of st
map_kept = Kept.map_kept

pub edition_kept : (st : State) (v : List ℕ) (c : Call) → (step st v c).state.edition ≡ st.edition
edition_kept = Kept.edition_kept

pub erase_value_kept : (st : State) (v : List ℕ) (c : Call) → erased_byte (step st v c).state.attributes ≡ erased_byte st.attributes
erase_value_kept = Kept.erase_value_kept

pub lawful_kept : (st : State) (v : List ℕ) (c : Call) → unlawful st ≡ false → unlawful (step st v c).state ≡ false
lawful_kept = Kept.lawful_kept

-- ---- blocks

-- "Blocks are numbered from 0": block 0 starts at byte 0 and is the first of the first entry's c blocks, of its length l
pub first_block : (c l : ℕ) (rest : List ℕ) → 0 < c → place (c ∷ l ∷ rest) 0 ≡ At 0 0 l c
first_block = Places.first_block

-- "through the map in order": the next block starts where a block ends
pub next_block : (m : List ℕ) (b e s l r e' s' l' r' : ℕ) → place m b ≡ At e s l r → place m (b + 1) ≡ At e' s' l' r' → s' ≡ s + l
next_block = Places.next_block

-- so every byte below a lawful state's length lies in exactly one block
pub one_block : (st : State) → unlawful st ≡ false → (i : ℕ) → i < st.length
    → (b : ℕ) × (T (in_block (map_of st) b i)) × ((a : ℕ) → T (in_block (map_of st) a i) → a ≡ b)
one_block = Sizes.one_block

-- "The first map entry that holds the block settles its place; nothing after it is consulted"
pub entry_settles : (m rest : List ℕ) (b : ℕ) → b < blocks m → place (m ++ rest) b ≡ place m b
entry_settles = Places.entry_settles

-- "Block size answers the length": a block that it answers for is there, with that length
pub size_length : (st : State) (v : List ℕ) (b l n : ℕ) → (step st v (get_block_size b)).answer ≡ success (l ∷ n ∷ []) → HasLength (place (map_of st) b) l
size_length = Sizes.size_length

-- "the number of consecutive blocks, starting with Lba, is returned. All blocks in this range have a size of BlockSize" (000): each of the n blocks
-- from b on has length l
pub size_alike : (st : State) (v : List ℕ) (b l n : ℕ) → (step st v (get_block_size b)).answer ≡ success (l ∷ n ∷ [])
    → (k : ℕ) → k < n → HasLength (place (map_of st) (b + k)) l
size_alike = Sizes.size_alike

-- "while the length stays equal" (02, b): the block after them, if there is one, has another length
pub size_ends : (st : State) (v : List ℕ) (b l n : ℕ) → (step st v (get_block_size b)).answer ≡ success (l ∷ n ∷ [])
    → HasLength (place (map_of st) (b + n)) l → ⊥
size_ends = Sizes.size_ends

-- and n is the only number of which the two are true
pub size_only : (st : State) (v : List ℕ) (b l n : ℕ) → (step st v (get_block_size b)).answer ≡ success (l ∷ n ∷ [])
    → (k : ℕ) → ((i : ℕ) → i < k → HasLength (place (map_of st) (b + i)) l) → (HasLength (place (map_of st) (b + k)) l → ⊥) → k ≡ n
size_only = Sizes.size_only

-- the blocks of the run lie one after the other
pub size_starts : (st : State) (v : List ℕ) (b l n : ℕ) → (step st v (get_block_size b)).answer ≡ success (l ∷ n ∷ [])
    → (k : ℕ) → k < n → start_of (place (map_of st) (b + k)) ≡ start_of (place (map_of st) b) + k * l
size_starts = Sizes.size_starts

-- the block asked is one of them
pub size_itself : (st : State) (v : List ℕ) (b l n : ℕ) → (step st v (get_block_size b)).answer ≡ success (l ∷ n ∷ []) → 0 < n
size_itself = Sizes.size_itself

-- where no two neighbouring entries have the same length, the number is 01's: "the number of blocks from the one asked to the end of its map entry,
-- itself included"
pub size_in_entry : (st : State) (v : List ℕ) (b l n : ℕ) → (step st v (get_block_size b)).answer ≡ success (l ∷ n ∷ [])
    → (e s r : ℕ) → place (map_of st) b ≡ At e s l r
    → ((i : ℕ) → 2 * (i + 1) + 1 < length (map_of st) → get_or (map_of st) (2 * i + 1) 0 ≡ get_or (map_of st) (2 * (i + 1) + 1) 0 → ⊥) → n ≡ r
size_in_entry = Sizes.size_in_entry

-- which is r: the blocks before block b and those r are all blocks of the entries up to its own, number e
pub entry_left : (m : List ℕ) (b e s l r : ℕ) → place m b ≡ At e s l r → b + r ≡ blocks (take (2 * (e + 1)) m)
entry_left = Runs.entry_left

-- ---- read and write, of a block that starts at byte s and has length l

-- "the count is the smaller of the lent data length and L minus offset"
pub count_smaller : (len offset n : ℕ) → offset ≤ len
    → (n ≤ len - offset → count_moved len offset n ≡ n) × (len - offset ≤ n → count_moved len offset n ≡ len - offset)
count_smaller = Moves.count_smaller

-- "or 0 where offset exceeds L"
pub count_none : (len offset n : ℕ) → len ≤ offset → count_moved len offset n ≡ 0
count_none = Moves.count_none

-- "The answer is success if the count is the whole data length, otherwise 4 (short)": with the count, of a read that is not refused
pub read_answer : (st : State) (v : List ℕ) (b o : ℕ) (buffer : List ℕ) → ((n : ℕ) → (step st v (read b o buffer)).answer ≡ refused n → ⊥)
    → (e s l r : ℕ) → place (map_of st) b ≡ At e s l r
    → (step st v (read b o buffer)).answer ≡ move_answer (count_moved l o (length buffer)) (length buffer)
read_answer = Moving.read_answer

-- and of a write
pub write_answer : (st : State) (v : List ℕ) (b o : ℕ) (new : List ℕ) → ((n : ℕ) → (step st v (write b o new)).answer ≡ refused n → ⊥)
    → (e s l r : ℕ) → place (map_of st) b ≡ At e s l r
    → (step st v (write b o new)).answer ≡ move_answer (count_moved l o (length new)) (length new)
write_answer = Moving.write_answer

-- "A read fills the first counted bytes of the buffer"
pub read_filled : (st : State) (v : List ℕ) (b o : ℕ) (buffer : List ℕ) → ((n : ℕ) → (step st v (read b o buffer)).answer ≡ refused n → ⊥)
    → (e s l r : ℕ) → place (map_of st) b ≡ At e s l r
    → (j : ℕ) → j < count_moved l o (length buffer) → get_or (step st v (read b o buffer)).buffer j 0 ≡ get_or v (s + o + j) 0
read_filled = Moving.read_filled

-- "and leaves the rest"
pub read_rest : (st : State) (v : List ℕ) (b o : ℕ) (buffer : List ℕ) → ((n : ℕ) → (step st v (read b o buffer)).answer ≡ refused n → ⊥)
    → (e s l r : ℕ) → place (map_of st) b ≡ At e s l r
    → (j : ℕ) → count_moved l o (length buffer) ≤ j → get_or (step st v (read b o buffer)).buffer j 0 ≡ get_or buffer j 0
read_rest = Moving.read_rest

-- a write stores each counted byte by the volume's write rule
pub write_named : (st : State) (v : List ℕ) (b o : ℕ) (new : List ℕ) → ((n : ℕ) → (step st v (write b o new)).answer ≡ refused n → ⊥)
    → (e s l r : ℕ) → place (map_of st) b ≡ At e s l r → (j : ℕ) → j < count_moved l o (length new)
    → get_or (step st v (write b o new)).volume (s + o + j) 0 ≡ written_byte st.attributes (get_or v (s + o + j) 0) (get_or new j 0)
write_named = Moving.write_named

-- in the block that it names
pub write_in_block : (st : State) (v : List ℕ) (b o : ℕ) (new : List ℕ) → ((n : ℕ) → (step st v (write b o new)).answer ≡ refused n → ⊥)
    → (e s l r : ℕ) → place (map_of st) b ≡ At e s l r → (j : ℕ) → j < count_moved l o (length new) → T (in_block (map_of st) b (s + o + j))
write_in_block = Moving.write_in_block

-- and no other byte
pub write_other : (st : State) (v : List ℕ) (b o : ℕ) (new : List ℕ) → ((n : ℕ) → (step st v (write b o new)).answer ≡ refused n → ⊥)
    → (e s l r : ℕ) → place (map_of st) b ≡ At e s l r → (i : ℕ) → (s + o ≤ i → i < s + o + count_moved l o (length new) → ⊥)
    → get_or (step st v (write b o new)).volume i 0 ≡ get_or v i 0
write_other = Moving.write_other

-- "A write replaces bytes on a volume without sticky write"
pub written_plain : (a old new : ℕ) → flag a sticky_write ≡ false → written_byte a old new ≡ new
written_plain = Moves.written_plain

-- "With sticky write, each stored byte is old AND new where the erase value is 1"
pub written_and : (a old new : ℕ) → flag a sticky_write ≡ true → flag a erase_polarity ≡ true → written_byte a old new ≡ bit_and old new
written_and = Moves.written_and

-- "old OR new where it is 0"
pub written_or : (a old new : ℕ) → flag a sticky_write ≡ true → flag a erase_polarity ≡ false → written_byte a old new ≡ bit_or old new
written_or = Moves.written_or

-- so a write to an erased byte stores it, sticky or not
pub written_erased : (a x : ℕ) → x < 256 → written_byte a (erased_byte a) x ≡ x
written_erased = Moves.written_erased

-- ---- erase

-- every byte of a block that a good list names is erased
pub erase_named : (st : State) (v list : List ℕ) → (step st v (erase_blocks list)).answer ≡ success [] → (b i : ℕ) → T (names list b)
    → T (in_block (map_of st) b i) → get_or (step st v (erase_blocks list)).volume i 0 ≡ erased_byte st.attributes
erase_named = Erasing.erase_named

-- "erase value of every bit"
pub erased_bit : (a j : ℕ) → j < 8 → erased_byte a / 2 ^ j % 2 ≡ a / erase_polarity % 2
erased_bit = Erasing.erased_bit

-- and every other byte stays
pub erase_other : (st : State) (v list : List ℕ) → (step st v (erase_blocks list)).answer ≡ success []
    → (i : ℕ) → ((b : ℕ) → T (names list b) → T (in_block (map_of st) b i) → ⊥) → get_or (step st v (erase_blocks list)).volume i 0 ≡ get_or v i 0
erase_other = Erasing.erase_other

-- "Words after that are ignored": after the terminator, which stands where a first block would, behind whole pairs
pub words_after_end : (st : State) (v pairs a b : List ℕ) → length pairs % 2 ≡ 0
    → step st v (erase_blocks (pairs ++ (end_of_list ∷ a))) ≡ step st v (erase_blocks (pairs ++ (end_of_list ∷ b)))
words_after_end = Erasing.words_after_end

-- "A block named twice is as if named once": only which blocks are named counts, of lists that are good or bad alike
pub named_alike : (st : State) (v a b : List ℕ) → good_list (blocks (map_of st)) a ≡ good_list (blocks (map_of st)) b → ((k : ℕ) → names a k ≡ names b k)
    → step st v (erase_blocks a) ≡ step st v (erase_blocks b)
named_alike = Erasing.named_alike

-- so a pair that stands twice is as if it stood once
pub named_twice : (st : State) (v : List ℕ) (f c : ℕ) (rest : List ℕ)
    → step st v (erase_blocks (f ∷ c ∷ f ∷ c ∷ rest)) ≡ step st v (erase_blocks (f ∷ c ∷ rest))
named_twice = Erasing.named_twice

-- "The empty list succeeds and changes nothing": the terminator, and whatever words follow it
pub empty_list : (st : State) (v rest : List ℕ) → unlawful st ≡ false → st.length ≤ length v → flag st.attributes write_status ≡ true
    → step st v (erase_blocks (end_of_list ∷ rest)) ≡ result_of (success []) st v []
empty_list = Erasing.empty_list

-- an erase list that comes as bytes (02, m): "eight to a word", the number of its words
pub byte_list_length : (s : List ℕ) → length (list_words s) ≡ length s / 8
byte_list_length = ByteLists.word_number

-- each of them: word i is the number in the eight bytes from byte 8 * i on
pub byte_list_word : (s : List ℕ) (i : ℕ) → i < length s / 8 → get_or (list_words s) i 0 ≡ le 8 s (8 * i)
byte_list_word = ByteLists.byte_word

-- "a part word at the end is ignored": the bytes behind the last whole word change nothing
pub part_word_ignored : (s t : List ℕ) → length s % 8 ≡ 0 → length t < 8 → list_words (s ++ t) ≡ list_words s
part_word_ignored = ByteLists.part_ignored

-- ---- set settings, of a lawful state

-- "any bit changed other than 4, 0x20, 0x80: 2", in edition 2 other than those, 0x2000 and 0x8000
pub set_fixed : (st : State) (v : List ℕ) (new : ℕ) → unlawful st ≡ false → changes_fixed st.edition st.attributes new ≡ true
    → step st v (set_attributes new) ≡ result_of (refused 2) st v []
set_fixed = Setting.set_fixed

-- no such bit is changed exactly where the settings agree at every bit of value 2 ^ k that is not a status's
pub fixed_bits : (edition old new : ℕ) → changes_fixed edition old new ≡ false → (k : ℕ) → bit (status_bits edition) k ≡ 0 → bit old k ≡ bit new k
fixed_bits = Rules.fixed_bits

pub bits_fixed : (edition old new : ℕ) → ((k : ℕ) → bit (status_bits edition) k ≡ 0 → bit old k ≡ bit new k) → changes_fixed edition old new ≡ false
bits_fixed = Rules.bits_fixed

-- "Locked and any bit changed: 15", in edition 2 also "where a status already locked would change or a lock bit be lowered" (02, a)
pub set_locked : (st : State) (v : List ℕ) (new : ℕ) → unlawful st ≡ false → changes_fixed st.edition st.attributes new ≡ false
    → changes_locked st.edition st.attributes new ≡ true → step st v (set_attributes new) ≡ result_of (refused 15) st v []
set_locked = Setting.set_locked

-- "A change that lacks its capability .. : 2"
pub set_lacking : (st : State) (v : List ℕ) (new : ℕ) → unlawful st ≡ false → changes_fixed st.edition st.attributes new ≡ false
    → changes_locked st.edition st.attributes new ≡ false → lacks_capability st.edition st.attributes new ≡ true
    → step st v (set_attributes new) ≡ result_of (refused 2) st v []
set_lacking = Setting.set_lacking

-- where only statuses change, 2 comes of a missing capability alone
pub set-refused_2 : (st : State) (v : List ℕ) (new : ℕ) → ((k : ℕ) → bit (status_bits st.edition) k ≡ 0 → bit st.attributes k ≡ bit new k)
    → (step st v (set_attributes new)).answer ≡ refused 2 → lacks_capability st.edition st.attributes new ≡ true
set-refused_2 = Setting.set-refused_2

-- otherwise the settings are set, and nothing else in the state changes
pub set_done : (st : State) (v : List ℕ) (new : ℕ) → unlawful st ≡ false → changes_fixed st.edition st.attributes new ≡ false
    → changes_locked st.edition st.attributes new ≡ false → lacks_capability st.edition st.attributes new ≡ false
    → step st v (set_attributes new) ≡ result_of (success (new ∷ [])) (with_attributes st new) v []
set_done = Setting.set_done

-- "Asking for the settings as they are succeeds": locked too, and nothing changes
pub settings_as_they_are : (st : State) (v : List ℕ) → unlawful st ≡ false
    → step st v (set_attributes st.attributes) ≡ result_of (success (st.attributes ∷ [])) st v []
settings_as_they_are = Setting.settings_as_they_are

-- "never lowered" (02, a), at every call of edition 2: a lock that is set stays set, and the status that it keeps keeps its value. Over whole runs:
-- `read_locked_run` and `write_locked_run` of isolation
pub read_lock_kept : (st : State) (v : List ℕ) (c : Call) → st.edition ≡ 2 → flag st.attributes read_lock_status ≡ true
    → (flag (step st v c).state.attributes read_lock_status ≡ true) × (flag (step st v c).state.attributes read_status ≡ flag st.attributes read_status)
read_lock_kept = Kept.read_lock_kept

pub write_lock_kept : (st : State) (v : List ℕ) (c : Call) → st.edition ≡ 2 → flag st.attributes write_lock_status ≡ true
    → (flag (step st v c).state.attributes write_lock_status ≡ true) × (flag (step st v c).state.attributes write_status ≡ flag st.attributes write_status)
write_lock_kept = Kept.write_lock_kept

-- and in both editions a state whose settings are locked stays as it is, whatever is called, but for its first protected block, which `protect_blocks` alone moves
pub locked_kept : (st : State) (v : List ℕ) (c : Call) → flag st.attributes lock_status ≡ true → (step st v c).state ≡ with_protected st (step st v c).state.protected
locked_kept = Kept.locked_kept

-- ---- protected blocks (02, j). Over whole runs: `protected_falls_run` and `protected_run` of isolation

-- an erase list reaches into the blocks from block m on exactly where it names one of them
pub reaches-names : (list : List ℕ) (m : ℕ) → reaches m list ≡ true → (b : ℕ) × (m ≤ b) × T (names list b)
reaches-names = Lists.reaches-names

pub names-reaches : (list : List ℕ) (m b : ℕ) → m ≤ b → T (names list b) → reaches m list ≡ true
names-reaches = Lists.names-reaches

-- "It may be lowered, never raised", of a lawful state: a first protected block above the present one is refused with 2
pub protect_raised : (st : State) (v : List ℕ) (first : ℕ) → unlawful st ≡ false → st.protected < first → step st v (protect_blocks first) ≡ result_of (refused 2) st v []
protect_raised = Protecting.protect_raised

-- and any other is set, whatever the settings and their locks, and nothing else in the state changes
pub protect_done : (st : State) (v : List ℕ) (first : ℕ) → unlawful st ≡ false → first ≤ st.protected
    → step st v (protect_blocks first) ≡ result_of (success []) (with_protected st first) v []
protect_done = Protecting.protect_done

-- the one that is, too, and then nothing changes
pub protected_as_it_is : (st : State) (v : List ℕ) → unlawful st ≡ false → step st v (protect_blocks st.protected) ≡ result_of (success []) st v []
protected_as_it_is = Protecting.protected_as_it_is

-- it stores nothing in the volume
pub protect_stores_nothing : (st : State) (v : List ℕ) (first : ℕ) → (step st v (protect_blocks first)).volume ≡ v
protect_stores_nothing = Protecting.protect_stores_nothing

-- "reads are free", of a lawful state: with more blocks protected, up to all, a read answers the same and fills the buffer with the same bytes
pub read_free : (st : State) (v : List ℕ) (first : ℕ) → unlawful st ≡ false → first ≤ st.protected → (b o : ℕ) (buffer : List ℕ)
    → let r = step st v (read b o buffer) in step (with_protected st first) v (read b o buffer) ≡ result_of r.answer (with_protected st first) v r.buffer
read_free = Protecting.read_free

-- no call raises the first protected block
pub protected_falls : (st : State) (v : List ℕ) (c : Call) → (step st v c).state.protected ≤ st.protected
protected_falls = Kept.protected_falls

-- and none but protecting blocks moves it
pub protection_kept : (st : State) (v : List ℕ) (c : Call) → ((first : ℕ) → c ≡ protect_blocks first → ⊥) → (step st v c).state.protected ≡ st.protected
protection_kept = Kept.protection_kept

-- and no call changes a byte of a protected block
pub protected_kept : (st : State) (v : List ℕ) (c : Call) (b i : ℕ) → st.protected ≤ b → T (in_block (map_of st) b i) → get_or (step st v c).volume i 0 ≡ get_or v i 0
protected_kept = Kept.protected_kept

-- where the first protected block is the number of blocks, as at opening, writes and erases are refused by the rows from before this request: 111, 5, 15 or 2
pub unprotected_write : (st : State) (n : ℕ) → st.protected ≡ blocks (map_of st) → (b o : ℕ) (new : List ℕ)
    → first_refusal (refusals st n (write b o new)) ≡ first_refusal (lent_refusals st n write_status ++ (row (leb (blocks (map_of st)) b) 2 ∷ []))
unprotected_write = Erasing.unprotected_write

pub unprotected_erase : (st : State) (n : ℕ) → st.protected ≡ blocks (map_of st) → (list : List ℕ)
    → first_refusal (refusals st n (erase_blocks list)) ≡ first_refusal (lent_refusals st n write_status ++ (row (not (good_list (blocks (map_of st)) list)) 2 ∷ []))
unprotected_erase = Erasing.unprotected_erase

-- ---- writes by a state that was judged before (for 02, e)

-- by the parts of a state which 111, 5 and 15 do not refuse on this volume it is the write
pub judged_write_lem : (st : State) (v : List ℕ) (b o : ℕ) (new : List ℕ) → first_refusal (lent_refusals st (length v) write_status) ≡ none
    → judged_write st.attributes st.protected (map_of st) v b o new ≡ stored (step st v (write b o new)).answer (step st v (write b o new)).volume
judged_write_lem = Reaches.judged_step

-- by any parts a refusal changes no byte
pub judged_refused : (attributes protected : ℕ) (words v : List ℕ) (b o : ℕ) (new : List ℕ) (n : ℕ) → (judged_write attributes protected words v b o new).answer ≡ refused n
    → judged_write attributes protected words v b o new ≡ stored (refused n) v
judged_refused = Reaches.judged_nothing

-- ---- erasing in two operations (02, g)

-- "Blocks go as the list first names them, bytes upward, each once", of a good list: a byte is in the order exactly where the list names its block
pub order_named : (m list : List ℕ) → good_list (blocks m) list ≡ true → (i : ℕ) → member i (erase_order m list) ≡ names list (block_at m i)
order_named m list good i = Orders.order_named m list i (Lists.names_within (blocks m) list good)

-- "each once": no byte stands twice in it
pub each_once : (m list : List ℕ) → good_list (blocks m) list ≡ true → (j k : ℕ) → j < length (erase_order m list) → k < length (erase_order m list)
    → get_or (erase_order m list) j 0 ≡ get_or (erase_order m list) k 0 → j ≡ k
each_once m list good = Orders.once_placed m list (Lists.names_within (blocks m) list good)

-- so it has at most the bytes that the blocks have
pub order_length : (m list : List ℕ) → good_list (blocks m) list ≡ true → length (erase_order m list) ≤ bytes m
order_length m list good = Orders.order_short m list (Lists.names_within (blocks m) list good)

-- "as the list first names them": all blocks of the first pair come first, in their order, and then those that the words after it name and the pair does not;
-- at the terminator there is nothing
pub order_pair : (m list : List ℕ) (first count : ℕ) → (first ≡ end_of_list → ⊥)
    → erase_order m (first ∷ count ∷ list)
    ≡ bytes_of m (up_from first count) ++ bytes_of m (firsts (λ b. leb first b && ltb b (first + count)) (named_blocks list))
order_pair = Orders.order_pair

pub order_end : (m list : List ℕ) → erase_order m (end_of_list ∷ list) ≡ []
order_end = Orders.order_end

-- "bytes upward": number k of the bytes of a run of blocks is the k-th after the first byte of the run's first block
pub order_upward : (m : List ℕ) (b n : ℕ) → b + n ≤ blocks m → (k : ℕ) → k < length (bytes_of m (up_from b n))
    → get_or (bytes_of m (up_from b n)) k 0 ≡ start_of (place m b) + k
order_upward = Orders.run_upward

-- "One operation accepts the list and answers a job", "111, 5, 15 and 2 at acceptance as before": a list is accepted exactly where its erase succeeds, with the
-- job 0, and refused with the number with which its erase is; nothing is stored
pub accept_as_erase : (st : State) (v list : List ℕ)
    → ((step st v (erase_blocks list)).answer ≡ success [] → step st v (accept_erase list) ≡ result_of (success (0 ∷ [])) st v [])
    × ((n : ℕ) → (step st v (erase_blocks list)).answer ≡ refused n → step st v (accept_erase list) ≡ result_of (refused n) st v [])
accept_as_erase = Jobs.accept_as_erase

pub accept_stores_nothing : (st : State) (v list : List ℕ) → (step st v (accept_erase list)).volume ≡ v
accept_stores_nothing = Jobs.accept_stores_nothing

-- "the other carries it on by a given number of byte stores or, if fewer, what is left": with the state, the volume, the settings and the list as an erase needs
-- them and a job that is given, it answers and changes the next bytes of the order
pub carry_allowed : (st : State) (v list : List ℕ) → unlawful st ≡ false → st.length ≤ length v → flag st.attributes write_status ≡ true
    → good_list (blocks (map_of st)) list ≡ true → ((b : ℕ) → T (names list b) → b < st.protected) → (job n : ℕ) → job_given (map_of st) list job ≡ true
    → step st v (carry_erase list job n)
    ≡ result_of (carry_answer (finishes (map_of st) list job n) (job + n)) st (edit (λ i old. changed_byte st.attributes (carry_change (map_of st) list job n i) old) 0 v) []
carry_allowed = Jobs.carry_allowed

-- which get the erase value; every other byte is as before
pub carry_byte : (st : State) (v list : List ℕ) (job n : ℕ) → ((k : ℕ) → (step st v (carry_erase list job n)).answer ≡ refused k → ⊥) → (i : ℕ) → i < length v
    → get_or (step st v (carry_erase list job n)).volume i 0
    ≡ cond (member i (part job (job + n) (erase_order (map_of st) list))) (erased_byte st.attributes) (get_or v i 0)
carry_byte = Jobs.carry_byte

-- "it answers finished exactly when nothing is left then, otherwise the job as it now stands"
pub carry_finished : (st : State) (v list : List ℕ) (job n : ℕ) → (step st v (carry_erase list job n)).answer ≡ success [] → length (erase_order (map_of st) list) ≤ job + n
carry_finished = Jobs.carry_finished

pub carry_unfinished : (st : State) (v list : List ℕ) (job n k : ℕ) → (step st v (carry_erase list job n)).answer ≡ short (k ∷ [])
    → (k ≡ job + n) × (k < length (erase_order (map_of st) list))
carry_unfinished = Jobs.carry_unfinished

-- by 0 stores nothing changes, whatever is answered
pub carry_none : (st : State) (v list : List ℕ) (job : ℕ) → (step st v (carry_erase list job 0)).volume ≡ v
carry_none = Jobs.carry_none

-- portions add up: carrying on by n and then, from the job answered, by k is carrying on by n + k
pub portions_add : (st : State) (v list : List ℕ) (job n j k : ℕ) → (step st v (carry_erase list job n)).answer ≡ short (j ∷ [])
    → step (step st v (carry_erase list job n)).state (step st v (carry_erase list job n)).volume (carry_erase list j k) ≡ step st v (carry_erase list job (n + k))
portions_add = Jobs.portions_add

-- "The old erase becomes accepting, then carrying on to the end, its promise unchanged": where the list is refused, so is its erase; where it is accepted, carrying
-- on from the job answered, by as many stores as the order has bytes or any more, answers and leaves what the erase does
pub two_operations : (st : State) (v list : List ℕ) (n : ℕ) → length (erase_order (map_of st) list) ≤ n
    → ((k : ℕ) → (step st v (accept_erase list)).answer ≡ refused k → step st v (erase_blocks list) ≡ result_of (refused k) st v [])
    × ((job : ℕ) → (step st v (accept_erase list)).answer ≡ success (job ∷ [])
    → step (step st v (accept_erase list)).state (step st v (accept_erase list)).volume (carry_erase list job n) ≡ step st v (erase_blocks list))
two_operations = Jobs.two_operations

-- for which the length of the lent volume is enough
pub order_within : (st : State) (v list values : List ℕ) → (step st v (accept_erase list)).answer ≡ success values → length (erase_order (map_of st) list) ≤ length v
order_within = Jobs.order_within

-- "a job that this map and list never give": those given are 0, which acceptance answers, and the numbers below the length of the order. Every job answered is
-- given, and every one given is answered; any other is refused (`jobs_2_job`)
pub answered-given : (st : State) (v list : List ℕ) (job n k : ℕ) → (step st v (carry_erase list job n)).answer ≡ short (k ∷ []) → job_given (map_of st) list k ≡ true
answered-given = Jobs.answered-given

pub given-answered : (st : State) (v list values : List ℕ) → (step st v (accept_erase list)).answer ≡ success values
    → (job : ℕ) → job_given (map_of st) list job ≡ true → 0 < job → (step st v (carry_erase list 0 job)).answer ≡ short (job ∷ [])
given-answered = Jobs.given-answered

-- "carrying on gives 111, 5, 15, then 2 for a bad list or a job that this map and list never give", and acceptance as before: 111 is `order_111`, then 5
pub jobs_5 : (st : State) (v list : List ℕ) → unlawful st ≡ false → length v < st.length
    → (step st v (accept_erase list) ≡ result_of (refused 5) st v []) × ((job n : ℕ) → step st v (carry_erase list job n) ≡ result_of (refused 5) st v [])
jobs_5 = Jobs.jobs_5

-- then 15
pub jobs_15 : (st : State) (v list : List ℕ) → unlawful st ≡ false → st.length ≤ length v → flag st.attributes write_status ≡ false
    → (step st v (accept_erase list) ≡ result_of (refused 15) st v []) × ((job n : ℕ) → step st v (carry_erase list job n) ≡ result_of (refused 15) st v [])
jobs_15 = Jobs.jobs_15

-- then 2: a bad list, and a job that is not given
pub jobs_2 : (st : State) (v list : List ℕ) → unlawful st ≡ false → st.length ≤ length v → flag st.attributes write_status ≡ true
    → good_list (blocks (map_of st)) list ≡ false
    → (step st v (accept_erase list) ≡ result_of (refused 2) st v []) × ((job n : ℕ) → step st v (carry_erase list job n) ≡ result_of (refused 2) st v [])
jobs_2 = Jobs.jobs_2

pub jobs_2_job : (st : State) (v list : List ℕ) → unlawful st ≡ false → st.length ≤ length v → flag st.attributes write_status ≡ true
    → good_list (blocks (map_of st)) list ≡ true → (job n : ℕ) → job_given (map_of st) list job ≡ false → step st v (carry_erase list job n) ≡ result_of (refused 2) st v []
jobs_2_job = Jobs.jobs_2_job

-- then "15 for a protected block .. anywhere in the erase list, after every 2, at both steps of g) too" (02, j)
pub jobs_15_protected : (st : State) (v list : List ℕ) → unlawful st ≡ false → st.length ≤ length v → flag st.attributes write_status ≡ true
    → good_list (blocks (map_of st)) list ≡ true → (b : ℕ) → T (names list b) → st.protected ≤ b
    → (step st v (accept_erase list) ≡ result_of (refused 15) st v [])
    × ((job n : ℕ) → job_given (map_of st) list job ≡ true → step st v (carry_erase list job n) ≡ result_of (refused 15) st v [])
jobs_15_protected = Jobs.jobs_15_protected

-- "The supply fails in thunderstorms": after `made` stores of an accepted list, carrying on from an earlier job, to the cut or past it, answers and leaves what carrying
-- on without a cut does. The power cut over whole runs: `power_cut` of isolation
pub again : (st : State) (v list values : List ℕ) → (step st v (accept_erase list)).answer ≡ success values → (made job n : ℕ) → job ≤ made → made ≤ job + n
    → job_given (map_of st) list job ≡ true → step st (step st v (carry_erase list 0 made)).volume (carry_erase list job n) ≡ step st v (carry_erase list 0 (job + n))
again = Jobs.again

-- a cut inside a call may leave the bytes of its portion, those from `from` on and below `to` in the order, in any mix: of a volume w that a portion of an accepted
-- list was started on and a volume u that differs from it only in bytes of that portion, carrying on from that portion's job or an earlier one, to the portion's end
-- or past it, makes the same
pub mended : (st : State) (v list values : List ℕ) → (step st v (accept_erase list)).answer ≡ success values → (u w : List ℕ) (job n from to : ℕ)
    → length u ≡ length v → length w ≡ length v → job ≤ from → to ≤ job + n → job_given (map_of st) list job ≡ true
    → ((i : ℕ) → member i (part from to (erase_order (map_of st) list)) ≡ false → get_or u i 0 ≡ get_or w i 0)
    → step st u (carry_erase list job n) ≡ step st w (carry_erase list job n)
mended = Jobs.mended

-- so, whatever such a cut left, carrying on from there or from any earlier job to the end answers and leaves what the whole erase does
pub cut_inside : (st : State) (v list values : List ℕ) → (step st v (accept_erase list)).answer ≡ success values → (u : List ℕ) (job n from to : ℕ)
    → length u ≡ length v → job ≤ from → from ≤ to → to ≤ job + n → length (erase_order (map_of st) list) ≤ job + n → job_given (map_of st) list job ≡ true
    → ((i : ℕ) → member i (part from to (erase_order (map_of st) list)) ≡ false → get_or u i 0 ≡ get_or (step st v (carry_erase list 0 from)).volume i 0)
    → step st u (carry_erase list job n) ≡ step st v (erase_blocks list)
cut_inside = Jobs.cut_inside
