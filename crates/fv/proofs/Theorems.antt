-- What a reader of document 02's requests m, e, g and k may want to know of the calls from C, beyond the contracts of src/: each theorem with 02's words. The laws stand
-- under the module of src/ that they serve.
use Prim.Native.Nat.{ℕ, ◌*◌, ◌/◌, ◌≤◌, ◌<◌, ◌^◌}
use mathlib.Core.Path.{◌≡◌, refl, sym, ap, ◌∙◌}
use mathlib.Core.Bool.{true, false}
use mathlib.Core.List.{List, [], ◌∷◌, ◌++◌}
use mathlib.Core.Logic.{◌⊎◌}
use mathlib.Core.Option.{none}
use native.Mathlib.Nat.{zero-add}
use native.Mathlib.Omega.{arith}
use lib.ListN.{length, get_or, take, drop, length-append}
use Rattle.common.specs.Answers.{Answer, refused, success, number_of, values_of}
use Rattle.common.proofs.Refusals.{no_row}
use Rattle.numbers.specs.LittleEndian.{le, le_bytes}
use Rattle.numbers.proofs.LittleEndian.{le-le_bytes}
use Rattle.volume.specs.ExtendedEntry.{ext_entry}
use Rattle.volume.specs.Header.{open_volume, words_at}
use Rattle.volume.specs.State.{unlawful}
use Rattle.volume.specs.declared.state.State.{State}
use Rattle.volume.proofs.Theorems.{opened_lawful}
use Rattle.volume.proofs.header.Fields.{words_at_at}
use Rattle.block_service.specs.Service.{Result, accept_erase, buffer_of, carry_erase, erase_blocks, read, step, write}
use Rattle.block_service.specs.Erase.{list_words}
use Rattle.block_service.proofs.Theorems.{order_111, refused_changes_nothing}
use Rattle.sections.specs.Append.{append_of}
use Rattle.sections.specs.Search.{search_first_of, search_of}
use Rattle.sections.specs.declared.header.Mode.{Mode}
use Rattle.sections.proofs.Theorems.{refused_keeps}
use Rattle.dependency.specs.Evaluation.{evaluate_of}
use Rattle.dependency.specs.Opcodes.{read_opcode, write_opcode}
use Rattle.dependency.specs.Validation.{validate_of}
use Rattle.dependency.proofs.Theorems.{write_refusal}
use Rattle.write_orders.specs.Orders.{orders_in, write_orders}
use Rattle.write_orders.specs.declared.Order.{Order}
use Rattle.fv.specs.Answer.{answer_bytes, answer_stored, entry_words, last_count, two_stored}
use Rattle.fv.specs.Called.{IsRefusal, called, answer_call}
use Rattle.fv.specs.DependencyCalls.{guids_bytes, guids_in, versions_bytes, write_opcode_call, evaluate_call}
use Rattle.fv.specs.OrderCalls.{write_list_call}
use Rattle.fv.specs.Packed.{packed, unpacked, state_bytes, Typed}
use Rattle.fv.specs.VolumeCalls.{entry_call, erase_call, open_call, read_call, write_call, state_after}
use Rattle.fv.specs.JobCalls.{accept_call, carry_call, job_bytes, job_in, job_stored}
use Rattle.fv.specs.SectionCalls.{append_call, mode_of}
use Rattle.fv.proofs.answer.Answers as Answers
use Rattle.fv.proofs.answer.Answers.{enough}
use Rattle.fv.proofs.answer.Numbers as Numbers
use Rattle.fv.proofs.dependency_calls.Calls as Dependency
use Rattle.fv.proofs.dependency_calls.Tables as Tables
use Rattle.fv.proofs.job_calls.Calls as Jobs
use Rattle.fv.proofs.order_calls.Calls as Orders
use Rattle.fv.proofs.packed.Opened as Opened
use Rattle.fv.proofs.packed.Packing as Packing
use Rattle.fv.proofs.packed.RoundTrip as RoundTrip
use Rattle.fv.proofs.section_calls.Calls as Sections
use Rattle.fv.proofs.volume_calls.Calls as Calls

-- ---- packed states

-- "packing then unpacking gives the same lawful state", whatever stands behind the 304 bytes
pub pack_unpack : (st : State) → Typed st → unlawful st ≡ false → (rest : List ℕ) → unpacked (packed st ++ rest) ≡ st
pack_unpack st typed lawful rest = let small = Opened.lawful_small st lawful in RoundTrip.packed_back st typed small.0 small.1 rest

-- unpacking then packing gives the same 304 bytes, lawful or not
pub unpack_pack : (s : List ℕ) → ((i : ℕ) → get_or s i 0 < 256) → length s ≡ state_bytes → packed (unpacked s) ≡ s
unpack_pack = RoundTrip.unpacked_back

-- a packed state has 304 bytes
pub packed-length : (st : State) → Typed st → length (packed st) ≡ state_bytes
packed-length st typed = Packing.length-packed st typed.guid typed.map

-- unpacking reads nothing behind them
pub unpacked-alike : (s t : List ℕ) → length s ≡ state_bytes → unpacked (s ++ t) ≡ unpacked s
unpacked-alike = Packing.unpacked-alike

-- ---- opening

-- an opening that succeeds stores the state that it answers, packed; what stood behind it stays
module _ (state v : List ℕ) (base : ℕ) (long : state_bytes ≤ length state) (opens : (open_volume v base).answer ≡ success []) where
  abbrev stored : List ℕ
  stored = packed (open_volume v base).state ++ drop state_bytes state

  pub opened-stored : open_call state v base ≡ called 0 (stored ∷ [])
  unfolding open_call state_after number_of
  opened-stored = rw (enough (length state) state_bytes [] none long no_row, opens)

  -- from real bytes: that state fits, the bytes unpack to it and are enough for the calls below
  module _ (bytes : (i : ℕ) → get_or v i 0 < 256) (small : base < 2 ^ 64) where
    pub opened-typed : Typed (open_volume v base).state
    opened-typed = Opened.opened-typed v bytes base small opens

    pub opened_back : unpacked stored ≡ (open_volume v base).state
    opened_back = pack_unpack (open_volume v base).state opened-typed (opened_lawful v base opens).0 (drop state_bytes state)

    pub opened_long : state_bytes ≤ length stored
    opened_long = rw (length-append (packed (open_volume v base).state) (drop state_bytes state)) (omega (arith, packed-length (open_volume v base).state opened-typed))

    -- so a call with these bytes is the inner call with the state that opening answered
    pub opened_read : (w : List ℕ) (block offset : ℕ) (buffer answer : List ℕ) → answer_bytes ≤ length answer → let r = step (open_volume v base).state w (read block offset buffer) in
        read_call stored w block offset buffer answer ≡ called (number_of r.answer) (r.buffer ∷ answer_stored (values_of r.answer) answer ∷ [])
    unfolding read_call
    opened_read w block offset buffer answer room =
        rw (enough (length stored) state_bytes _ none opened_long (enough (length answer) answer_bytes [] none room no_row), opened_back)

    pub opened_write : (w : List ℕ) (block offset : ℕ) (new answer : List ℕ) → answer_bytes ≤ length answer → let r = step (open_volume v base).state w (write block offset new) in
        write_call stored w block offset new answer ≡ called (number_of r.answer) (r.volume ∷ answer_stored (values_of r.answer) answer ∷ [])
    unfolding write_call
    opened_write w block offset new answer room =
        rw (enough (length stored) state_bytes _ none opened_long (enough (length answer) answer_bytes [] none room no_row), opened_back)

    pub opened_list : (w orders source answer : List ℕ) → answer_bytes ≤ length answer → let b = write_orders (open_volume v base).state source w (orders_in orders) in
        write_list_call stored w orders source answer ≡ called (number_of b.last) (b.volume ∷ two_stored b.count (last_count b.last) answer ∷ [])
    unfolding write_list_call
    opened_list w orders source answer room = rw (enough (length stored) state_bytes _ none opened_long (enough (length answer) answer_bytes [] none room no_row), opened_back)

    pub opened_erase : (w list : List ℕ) → let r = step (open_volume v base).state w (erase_blocks (list_words list)) in
        erase_call stored w list ≡ called (number_of r.answer) (r.volume ∷ [])
    unfolding erase_call
    opened_erase w list = rw (enough (length stored) state_bytes [] none opened_long no_row, opened_back)

    pub opened_accept : (w list job : List ℕ) → job_bytes ≤ length job → let r = step (open_volume v base).state w (accept_erase (list_words list)) in
        accept_call stored w list job ≡ called (number_of r.answer) (job_stored (values_of r.answer) job ∷ [])
    unfolding accept_call
    opened_accept w list job room = rw (enough (length stored) state_bytes _ none opened_long (enough (length job) job_bytes [] none room no_row), opened_back)

    pub opened_carry : (w list job : List ℕ) (stores : ℕ) → job_bytes ≤ length job → let r = step (open_volume v base).state w (carry_erase (list_words list) (job_in job) stores) in
        carry_call stored w list job stores ≡ called (number_of r.answer) (r.volume ∷ job_stored (values_of r.answer) job ∷ [])
    unfolding carry_call
    opened_carry w list job stores room = rw (enough (length stored) state_bytes _ none opened_long (enough (length job) job_bytes [] none room no_row), opened_back)

-- ---- the erase in two operations (02, g)

-- a job that was stored is the one that the next call reads, also from the same bytes after a reboot
pub job_back : (x : ℕ) (job : List ℕ) → x < 2 ^ 64 → job_in (job_stored (x ∷ []) job) ≡ x
unfolding job_stored
job_back x job h = le-le_bytes 8 x (drop job_bytes job) h

-- "The old erase becomes accepting, then carrying on to the end": where fv_erase succeeds, fv_accept_erase stores the job 0, and fv_carry_erase from it, by as many stores
-- as the volume has bytes or more, returns 0 and leaves the volume that fv_erase leaves
pub two_calls : (state v list job : List ℕ) (stores : ℕ) → state_bytes ≤ length state → job_bytes ≤ length job → length v ≤ stores
    → (step (unpacked state) v (erase_blocks (list_words list))).answer ≡ success []
    → let kept = le_bytes job_bytes 0 ++ drop job_bytes job in
    (accept_call state v list job ≡ called 0 (kept ∷ [])) × (carry_call state v list kept stores ≡ called 0 ((step (unpacked state) v (erase_blocks (list_words list))).volume ∷ kept ∷ []))
two_calls = Jobs.two_calls

-- where fv_erase is refused, so is fv_accept_erase, with the same number, and neither changes a byte
pub two_refused : (state v list job : List ℕ) → state_bytes ≤ length state → job_bytes ≤ length job → (n : ℕ)
    → (step (unpacked state) v (erase_blocks (list_words list))).answer ≡ refused n → (erase_call state v list ≡ called n (v ∷ [])) × (accept_call state v list job ≡ called n (job ∷ []))
two_refused = Jobs.two_refused

-- ---- the order of the refusals, and what they leave: every range

module _ (state v : List ℕ) (base : ℕ) where
  -- "5 for state or answer bytes too few", whatever else is wrong
  pub open_few_state : length state < state_bytes → open_call state v base ≡ called 5 (state ∷ [])
  open_few_state h = sym (Calls.open_few state v base h)

  pub open_refused : state_bytes ≤ length state → (n : ℕ) → (open_volume v base).answer ≡ refused n → open_call state v base ≡ called n (state ∷ [])
  unfolding open_call state_after number_of
  open_refused long n e = rw (enough (length state) state_bytes [] none long no_row, e)

module _ (state v : List ℕ) (block offset : ℕ) (buffer answer : List ℕ) where
  -- the same of a read
  pub read_few_state : length state < state_bytes → read_call state v block offset buffer answer ≡ called 5 (buffer ∷ answer ∷ [])
  read_few_state h = sym (Calls.read_few_state state v block offset buffer answer h)

  module _ (long : state_bytes ≤ length state) where
    pub read_few_answer : length answer < answer_bytes → read_call state v block offset buffer answer ≡ called 5 (buffer ∷ answer ∷ [])
    read_few_answer h = sym (Calls.read_few_answer state v block offset buffer answer long h)

    module _ (room : answer_bytes ≤ length answer) where
      -- a refusal of the inner read leaves the buffer and the answer's bytes
      pub read_refused : (n : ℕ) → (step (unpacked state) v (read block offset buffer)).answer ≡ refused n
          → read_call state v block offset buffer answer ≡ called n (buffer ∷ answer ∷ [])
      unfolding buffer_of number_of values_of answer_stored
      read_refused n e =
          sym (Calls.read_done state v block offset buffer answer long room (refused n) (unpacked state) n buffer answer
          (sym (refused_changes_nothing (unpacked state) v (read block offset buffer) n e)) (refl, refl))

      -- "111 for bytes that unpack to no lawful state", before the others
      pub read_111 : unlawful (unpacked state) ≡ true → read_call state v block offset buffer answer ≡ called 111 (buffer ∷ answer ∷ [])
      read_111 e = read_refused 111 (ap (λ (r : Result). r.answer) (order_111 (unpacked state) v (read block offset buffer) e))

module _ (state v : List ℕ) (block offset : ℕ) (new answer : List ℕ) where
  -- of a write
  pub write_few_state : length state < state_bytes → write_call state v block offset new answer ≡ called 5 (v ∷ answer ∷ [])
  write_few_state h = sym (Calls.write_few_state state v block offset new answer h)

  module _ (long : state_bytes ≤ length state) where
    pub write_few_answer : length answer < answer_bytes → write_call state v block offset new answer ≡ called 5 (v ∷ answer ∷ [])
    write_few_answer h = sym (Calls.write_few_answer state v block offset new answer long h)

    module _ (room : answer_bytes ≤ length answer) where
      pub write_refused : (n : ℕ) → (step (unpacked state) v (write block offset new)).answer ≡ refused n
          → write_call state v block offset new answer ≡ called n (v ∷ answer ∷ [])
      unfolding buffer_of number_of values_of answer_stored
      write_refused n e =
          sym (Calls.write_done state v block offset new answer long room (refused n) (unpacked state) n v answer
          (sym (refused_changes_nothing (unpacked state) v (write block offset new) n e)) (refl, refl))

      pub write_111 : unlawful (unpacked state) ≡ true → write_call state v block offset new answer ≡ called 111 (v ∷ answer ∷ [])
      write_111 e = write_refused 111 (ap (λ (r : Result). r.answer) (order_111 (unpacked state) v (write block offset new) e))

module _ (state v orders source answer : List ℕ) where
  -- of a list of writes: 5 for too few bytes leaves every range. Behind it the order is the inner call's: 2 for more than sixty-four orders and the empty list before 111
  -- (`order_5` and the theorems after it, of write_orders, for the rest). All but 5 store how many writes succeeded and the last one's count
  pub list_few_state : length state < state_bytes → write_list_call state v orders source answer ≡ called 5 (v ∷ answer ∷ [])
  list_few_state h = sym (Orders.list_few_state state v orders source answer h)

  module _ (long : state_bytes ≤ length state) where
    pub list_few_answer : length answer < answer_bytes → write_list_call state v orders source answer ≡ called 5 (v ∷ answer ∷ [])
    list_few_answer h = sym (Orders.list_few_answer state v orders source answer long h)

    module _ (room : answer_bytes ≤ length answer) where
      pub list_many : 64 < length orders / 32 → write_list_call state v orders source answer ≡ called 2 (v ∷ two_stored 0 0 answer ∷ [])
      list_many = Orders.list_many state v orders source answer long room

      pub list_empty : length orders < 32 → write_list_call state v orders source answer ≡ called 0 (v ∷ two_stored 0 0 answer ∷ [])
      list_empty = Orders.list_empty state v orders source answer long room

      pub list_111 : 32 ≤ length orders → length orders / 32 ≤ 64 → unlawful (unpacked state) ≡ true → write_list_call state v orders source answer ≡ called 111 (v ∷ two_stored 0 0 answer ∷ [])
      list_111 = Orders.list_111 state v orders source answer long room

module _ (state v list : List ℕ) where
  -- of an erase
  pub erase_few_state : length state < state_bytes → erase_call state v list ≡ called 5 (v ∷ [])
  erase_few_state h = sym (Calls.erase_few state v list h)

  module _ (long : state_bytes ≤ length state) where
    pub erase_refused : (n : ℕ) → (step (unpacked state) v (erase_blocks (list_words list))).answer ≡ refused n → erase_call state v list ≡ called n (v ∷ [])
    unfolding erase_call buffer_of number_of
    erase_refused n e = rw (enough (length state) state_bytes [] none long no_row, refused_changes_nothing (unpacked state) v (erase_blocks (list_words list)) n e)

    pub erase_111 : unlawful (unpacked state) ≡ true → erase_call state v list ≡ called 111 (v ∷ [])
    erase_111 e = erase_refused 111 (ap (λ (r : Result). r.answer) (order_111 (unpacked state) v (erase_blocks (list_words list)) e))

module _ (state v list job : List ℕ) where
  -- of an acceptance
  pub accept_few_state : length state < state_bytes → accept_call state v list job ≡ called 5 (job ∷ [])
  accept_few_state h = sym (Jobs.accept_few_state state v list job h)

  module _ (long : state_bytes ≤ length state) where
    pub accept_few_job : length job < job_bytes → accept_call state v list job ≡ called 5 (job ∷ [])
    accept_few_job h = sym (Jobs.accept_few_job state v list job long h)

    module _ (room : job_bytes ≤ length job) where
      pub accept_refused : (n : ℕ) → (step (unpacked state) v (accept_erase (list_words list))).answer ≡ refused n → accept_call state v list job ≡ called n (job ∷ [])
      unfolding accept_call number_of values_of job_stored
      accept_refused n e = rw (enough (length state) state_bytes _ none long (enough (length job) job_bytes [] none room no_row), e)

      pub accept_111 : unlawful (unpacked state) ≡ true → accept_call state v list job ≡ called 111 (job ∷ [])
      accept_111 e = accept_refused 111 (ap (λ (r : Result). r.answer) (order_111 (unpacked state) v (accept_erase (list_words list)) e))

module _ (state v list job : List ℕ) (stores : ℕ) where
  -- and of a carrying on
  pub carry_few_state : length state < state_bytes → carry_call state v list job stores ≡ called 5 (v ∷ job ∷ [])
  carry_few_state h = sym (Jobs.carry_few_state state v list job stores h)

  module _ (long : state_bytes ≤ length state) where
    pub carry_few_job : length job < job_bytes → carry_call state v list job stores ≡ called 5 (v ∷ job ∷ [])
    carry_few_job h = sym (Jobs.carry_few_job state v list job stores long h)

    module _ (room : job_bytes ≤ length job) where
      pub carry_refused : (n : ℕ) → (step (unpacked state) v (carry_erase (list_words list) (job_in job) stores)).answer ≡ refused n
          → carry_call state v list job stores ≡ called n (v ∷ job ∷ [])
      unfolding carry_call buffer_of number_of values_of job_stored
      carry_refused n e =
          rw (
            enough (length state) state_bytes _ none long (enough (length job) job_bytes [] none room no_row),
            refused_changes_nothing (unpacked state) v (carry_erase (list_words list) (job_in job) stores) n e,
          )

      pub carry_111 : unlawful (unpacked state) ≡ true → carry_call state v list job stores ≡ called 111 (v ∷ job ∷ [])
      carry_111 e = carry_refused 111 (ap (λ (r : Result). r.answer) (order_111 (unpacked state) v (carry_erase (list_words list) (job_in job) stores) e))

module _ (inner : Answer) (answer : List ℕ) where
  -- of a search, of the search for the first, of an entry, and of reading an opcode (`search_call`, `search_first_call`, `entry_call`, `read_opcode_call`)
  pub answer_few : length answer < answer_bytes → answer_call inner answer ≡ called 5 (answer ∷ [])
  answer_few h = sym (Answers.answer_few inner answer h)

  pub answer_refused : answer_bytes ≤ length answer → (n : ℕ) → inner ≡ refused n → answer_call inner answer ≡ called n (answer ∷ [])
  unfolding answer_call number_of values_of answer_stored
  answer_refused room n e = rw (enough (length answer) answer_bytes [] none room no_row, e)

module _ (mode : ℕ) (buffer : List ℕ) (used section_type : ℕ) (body answer : List ℕ) where
  -- of an append
  pub append-few_answer : length answer < answer_bytes → append_call mode buffer used section_type body answer ≡ called 5 (buffer ∷ answer ∷ [])
  append-few_answer h = sym (Sections.append_few mode buffer used section_type body answer h)

  pub append-refused : answer_bytes ≤ length answer → (n : ℕ) → append_of (mode_of mode) (length buffer) used section_type (length body) ≡ refused n
      → append_call mode buffer used section_type body answer ≡ called n (buffer ∷ answer ∷ [])
  unfolding append_call number_of values_of answer_stored
  append-refused room n e =
      let other = (Numbers.append_number (mode_of mode) (length buffer) used section_type (length body) n e).0 in
      let kept = refused_keeps (mode_of mode) buffer used section_type body (λ z. other (sym (ap number_of e) ∙ z)) in
      rw (enough (length answer) answer_bytes [] none room no_row, kept, e)

-- an entry that is refused is one of the calls above
pub entry_refused : (v : List ℕ) (number : ℕ) (answer : List ℕ) → answer_bytes ≤ length answer → (n : ℕ) → ext_entry v number ≡ refused n → entry_call v number answer ≡ called n (answer ∷ [])
unfolding entry_words
entry_refused v number answer room n e = answer_refused (entry_words (ext_entry v number)) answer room n (rw e)

module _ (code : ℕ) (operand room answer : List ℕ) where
  -- of writing an opcode
  pub write_opcode_few : length answer < answer_bytes → write_opcode_call code operand room answer ≡ called 5 (room ∷ answer ∷ [])
  write_opcode_few h = sym (Dependency.write_few code operand room answer h)

  pub write_opcode-refused : answer_bytes ≤ length answer → (n : ℕ) → (write_opcode code operand room).answer ≡ refused n
      → write_opcode_call code operand room answer ≡ called n (room ∷ answer ∷ [])
  unfolding write_opcode_call number_of values_of answer_stored
  write_opcode-refused long n e = rw (enough (length answer) answer_bytes [] none long no_row, e, (write_refusal code operand room n e).1)

module _ (expression guids versions : List ℕ) (used : ℕ) (answer : List ℕ) where
  -- and of an evaluation: 5 for too few bytes of the table or the answer, before the others
  pub evaluate_few : (length guids < guids_bytes) ⊎ ((length versions < versions_bytes) ⊎ (length answer < answer_bytes))
      → evaluate_call expression guids versions used answer ≡ called 5 (answer ∷ [])
  evaluate_few = Dependency.evaluate_few expression guids versions used answer

  pub evaluate_refused : guids_bytes ≤ length guids → versions_bytes ≤ length versions → answer_bytes ≤ length answer → (n : ℕ)
      → evaluate_of (guids_in 16 guids) (words_at 16 versions 0) used expression ≡ refused n → evaluate_call expression guids versions used answer ≡ called n (answer ∷ [])
  unfolding number_of values_of answer_stored
  evaluate_refused g v long n e = sym (Dependency.evaluate_done expression guids versions used answer g v long (refused n) n answer (sym e) (refl, refl))

-- ---- the table of installed firmware, as bytes: row i is the GUID in the bytes from 16 i on, and the version beside it the 32-bit number in those from 4 i on

pub table_row : (guids : List ℕ) (i : ℕ) → i < 16 → get_or (guids_in 16 guids) i [] ≡ take 16 (drop (16 * i) guids)
table_row = Tables.row_of 16

pub table_version : (versions : List ℕ) (i : ℕ) → i < 16 → get_or (words_at 16 versions 0) i 0 ≡ le 4 versions (4 * i)
table_version versions i h = words_at_at 16 versions 0 i h ∙ ap (le 4 versions) (zero-add (4 * i))

-- ---- the number tells: a refusal's is neither 0 nor 4, so that 0 is success and 4 is short

pub open_number : (v : List ℕ) (base n : ℕ) → (open_volume v base).answer ≡ refused n → IsRefusal n
open_number = Numbers.open_number

pub read_number : (st : State) (v : List ℕ) (n block offset : ℕ) (buffer : List ℕ) → (step st v (read block offset buffer)).answer ≡ refused n → IsRefusal n
read_number = Numbers.read_number

pub write_number : (st : State) (v : List ℕ) (n block offset : ℕ) (new : List ℕ) → (step st v (write block offset new)).answer ≡ refused n → IsRefusal n
write_number = Numbers.write_number

pub list_number : (st : State) (source v : List ℕ) (orders : List Order) (n : ℕ) → (write_orders st source v orders).last ≡ refused n → IsRefusal n
list_number = Numbers.list_number

pub erase_number : (st : State) (v : List ℕ) (n : ℕ) (list : List ℕ) → (step st v (erase_blocks list)).answer ≡ refused n → IsRefusal n
erase_number = Numbers.erase_number

pub accept_number : (st : State) (v : List ℕ) (n : ℕ) (list : List ℕ) → (step st v (accept_erase list)).answer ≡ refused n → IsRefusal n
accept_number = Numbers.accept_number

pub carry_number : (st : State) (v : List ℕ) (n : ℕ) (list : List ℕ) (job stores : ℕ) → (step st v (carry_erase list job stores)).answer ≡ refused n → IsRefusal n
carry_number = Numbers.carry_number

pub entry_number : (v : List ℕ) (number n : ℕ) → ext_entry v number ≡ refused n → IsRefusal n
entry_number = Numbers.entry_number

pub search_number : (mode : Mode) (s : List ℕ) (section_type instance n : ℕ) → search_of mode s section_type instance ≡ refused n → IsRefusal n
search_number = Numbers.search_number

pub first_number : (mode : Mode) (s : List ℕ) (section_type n : ℕ) → search_first_of mode s section_type ≡ refused n → IsRefusal n
first_number = Numbers.first_number_of

pub append_number : (mode : Mode) (room used section_type m n : ℕ) → append_of mode room used section_type m ≡ refused n → IsRefusal n
append_number = Numbers.append_number

pub read_opcode_number : (s : List ℕ) (n : ℕ) → read_opcode s ≡ refused n → IsRefusal n
read_opcode_number = Numbers.read_opcode_number

pub write_opcode_number : (code : ℕ) (operand room : List ℕ) (n : ℕ) → (write_opcode code operand room).answer ≡ refused n → IsRefusal n
write_opcode_number = Numbers.write_opcode_number

pub validate_number : (s : List ℕ) (n : ℕ) → validate_of s ≡ refused n → IsRefusal n
validate_number = Numbers.validate_number

pub evaluate_number : (rows : List (List ℕ)) (versions : List ℕ) (used : ℕ) (s : List ℕ) (n : ℕ) → evaluate_of rows versions used s ≡ refused n → IsRefusal n
evaluate_number = Numbers.evaluate_number

-- ---- the answer's bytes

-- "count and 0 .. go 64-bit into 16 lent bytes": they read back
pub count_read : (count : ℕ) (room : List ℕ) → count < 2 ^ 64 → (le 8 (answer_stored (count ∷ []) room) 0 ≡ count) × (le 8 (answer_stored (count ∷ []) room) 8 ≡ 0)
unfolding answer_stored le le_bytes
count_read count room h = (le-le_bytes 8 count (le_bytes 8 0 ++ drop answer_bytes room) h, refl)

-- "or first byte and end", and of a list of writes how many succeeded and the last one's count, which `two_stored` stores too
pub part_read : (first end : ℕ) (room : List ℕ) → first < 2 ^ 64 → end < 2 ^ 64
    → (le 8 (answer_stored (first ∷ end ∷ []) room) 0 ≡ first) × (le 8 (answer_stored (first ∷ end ∷ []) room) 8 ≡ end)
unfolding answer_stored le le_bytes
part_read first end room h k = (le-le_bytes 8 first (le_bytes 8 end ++ drop answer_bytes room) h, le-le_bytes 8 end (drop answer_bytes room) k)
