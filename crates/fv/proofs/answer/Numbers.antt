-- A refusal's number is neither 0 nor 4, of every inner call: so the number that a call returns tells success, short and refusal apart.
use Prim.Native.Nat.{ℕ, zero, suc, ◌≤◌}
use mathlib.Core.Path.{◌≡◌, refl, sym, ap, subst}
use mathlib.Core.Bool.{Bool, true, false, cond}
use mathlib.Core.List.{List, [], ◌∷◌}
use mathlib.Core.Logic.{◌⊎◌, inl, inr}
use mathlib.Core.Option.{Option, none, some, none-ne-some}
use native.Mathlib.Omega.{arith}
use lib.Dec.{eqb}
use lib.ListN.{length, get_elem?}
use Rattle.common.specs.Answers.{Answer, refused, success, short, refusal_in}
use Rattle.common.specs.Refusals.{first_refusal, unless_refused}
use Rattle.common.proofs.Refusals.{AllNumbers, refusal_number}
use Rattle.volume.specs.Header.{open_refusals, opened, opens, open_volume, state_at}
use Rattle.volume.specs.State.{zero_state}
use Rattle.volume.specs.ExtendedEntry.{entry_of, ext_entries_of, ext_entry}
use Rattle.volume.specs.ExtendedHeader.{Entry}
use Rattle.block_service.specs.Service.{accept_erase, carry_erase, erase_blocks, lent_refusals, read, refusals, step, write}
use Rattle.volume.specs.declared.state.State.{State}
use Rattle.block_service.proofs.Theorems.{refused_exactly}
use Rattle.sections.specs.Append.{append_of, append_refusals, used_after}
use Rattle.sections.specs.Search.{Section, first_answer, first_fault, of_type, part_answer, search_first_of, search_of, sections}
use Rattle.sections.specs.Walk.{Trace, done, fault, section, stream_walk}
use Rattle.sections.specs.declared.header.Mode.{Mode}
use Rattle.sections.proofs.walk.FaultNumbers.{Numbered, fault_number_lem, numbered_stream}
use Rattle.dependency.specs.Evaluation.{evaluate_of}
use Rattle.dependency.specs.Opcodes.{read_opcode, write_opcode, OfReader, OfWriter}
use Rattle.dependency.specs.Validation.{validate_of, OfTest}
use Rattle.dependency.proofs.Theorems.{read_refusal, write_refusal, test_refusal, evaluate_refusal}
use Rattle.write_orders.specs.Orders.{write_orders}
use Rattle.write_orders.specs.declared.Order.{Order}
use Rattle.write_orders.proofs.Lists.{last_of}
use Rattle.fv.specs.Called.{IsRefusal}

number_of : (a b : ℕ) → refused a ≡ refused b → a ≡ b
number_of a b e = cc

answered : (values : List ℕ) (n : ℕ) → success values ≡ refused n → ⊥
answered values n e = none-ne-some n (ap refusal_in e)

large : (n : ℕ) → 5 ≤ n → IsRefusal n
large n h = (λ e. omega arith, λ e. omega arith)

two : IsRefusal 2
two = (λ e. omega arith, λ e. omega arith)

-- ---- the calls on volumes

module _ (st : State) (v : List ℕ) (n : ℕ) where
  pub read_number : (b o : ℕ) (buffer : List ℕ) → (step st v (read b o buffer)).answer ≡ refused n → IsRefusal n
  unfolding refusals lent_refusals
  read_number b o buffer e =
      refusal_number IsRefusal (refusals st (length v) (read b o buffer)) (large 111 (omega arith), (large 5 (omega arith), (large 15 (omega arith), (two, tt)))) n
      ((refused_exactly st v (read b o buffer) n).0 e)

  pub write_number : (b o : ℕ) (new : List ℕ) → (step st v (write b o new)).answer ≡ refused n → IsRefusal n
  unfolding refusals lent_refusals
  write_number b o new e =
      refusal_number IsRefusal (refusals st (length v) (write b o new)) (large 111 (omega arith), (large 5 (omega arith), (large 15 (omega arith), (two, (large 15 (omega arith), tt))))) n
      ((refused_exactly st v (write b o new) n).0 e)

  pub erase_number : (list : List ℕ) → (step st v (erase_blocks list)).answer ≡ refused n → IsRefusal n
  unfolding refusals lent_refusals
  erase_number list e =
      refusal_number IsRefusal (refusals st (length v) (erase_blocks list)) (large 111 (omega arith), (large 5 (omega arith), (large 15 (omega arith), (two, (large 15 (omega arith), tt))))) n
      ((refused_exactly st v (erase_blocks list) n).0 e)

  pub accept_number : (list : List ℕ) → (step st v (accept_erase list)).answer ≡ refused n → IsRefusal n
  unfolding refusals lent_refusals
  accept_number list e =
      refusal_number IsRefusal (refusals st (length v) (accept_erase list)) (large 111 (omega arith), (large 5 (omega arith), (large 15 (omega arith), (two, (large 15 (omega arith), tt))))) n
      ((refused_exactly st v (accept_erase list) n).0 e)

  pub carry_number : (list : List ℕ) (job stores : ℕ) → (step st v (carry_erase list job stores)).answer ≡ refused n → IsRefusal n
  unfolding refusals lent_refusals
  carry_number list job stores e =
      refusal_number IsRefusal (refusals st (length v) (carry_erase list job stores))
      (large 111 (omega arith), (large 5 (omega arith), (large 15 (omega arith), (two, (two, (large 15 (omega arith), tt)))))) n
      ((refused_exactly st v (carry_erase list job stores) n).0 e)

-- the last answer of a list of writes
pub list_number : (st : State) (d v : List ℕ) (os : List Order) (n : ℕ) → (write_orders st d v os).last ≡ refused n → IsRefusal n
list_number st d v os n e =
    last_of st d (λ (a : Answer). a ≡ refused n → IsRefusal n) (λ w b o new. write_number st w n b o new) v os (λ z. absurd (answered _ n z)) (λ z. subst IsRefusal (number_of 2 n z) two) e

pub open_number : (v : List ℕ) (base n : ℕ) → (open_volume v base).answer ≡ refused n → IsRefusal n
unfolding open_volume open_refusals
open_number v base n = go (first_refusal (open_refusals v (state_at v base))) refl
  where
    l : (k : ℕ) → 5 ≤ k → IsRefusal k
    l = large

    all : AllNumbers IsRefusal (open_refusals v (state_at v base))
    all = (l 101 (omega arith), (l 102 (omega arith), (l 103 (omega arith), (l 104 (omega arith), (l 105 (omega arith), (l 106 (omega arith), (l 107 (omega arith), (l 108 (omega arith), (l 109 (omega arith), (l 110 (omega arith), (l 112 (omega arith), tt)))))))))))

    go : (o : Option ℕ) → first_refusal (open_refusals v (state_at v base)) ≡ o
        → (unless_refused (λ k. opens (refused k) zero_state) o (opened (state_at v base))).answer ≡ refused n → IsRefusal n
    go none p e = absurd (answered [] n e)
    go (some k) p e = subst IsRefusal (number_of k n e) (refusal_number IsRefusal (open_refusals v (state_at v base)) all k p)

pub entry_number : (v : List ℕ) (number n : ℕ) → ext_entry v number ≡ refused n → IsRefusal n
unfolding ext_entry entry_of
entry_number v number n = go (open_volume v 0).answer refl
  where
    missing : (entries : List Entry) (k : ℕ) → entry_of entries k ≡ refused n → IsRefusal n
    missing [] k e = subst IsRefusal (number_of 14 n e) (large 14 (omega arith))
    missing (x ∷ rest) zero e = absurd (answered _ n e)
    missing (x ∷ rest) (suc k) e = missing rest k e

    go : (a : Answer) → (open_volume v 0).answer ≡ a → unless_refused (λ k. refused k) (refusal_in a) (entry_of (ext_entries_of v) number) ≡ refused n → IsRefusal n
    go (refused k) p e = subst IsRefusal (number_of k n e) (open_number v 0 k p)
    go (success values) p e = missing (ext_entries_of v) number e
    go (short values) p e = missing (ext_entries_of v) number e

-- ---- the calls on section streams

module _ (mode : Mode) where
  not_there : (o : Option Section) (n : ℕ) → part_answer o ≡ refused n → IsRefusal n
  not_there none n e = subst IsRefusal (number_of 14 n e) (large 14 (omega arith))
  not_there (some x) n e = absurd (answered _ n e)

  pub search_number : (s : List ℕ) (t k n : ℕ) → search_of mode s t k ≡ refused n → IsRefusal n
  unfolding search_of
  search_number s t k n = go (first_fault (stream_walk mode s)) refl
    where
      found : Option Section
      found = get_elem? (of_type t (sections (stream_walk mode s))) k

      go : (o : Option ℕ) → first_fault (stream_walk mode s) ≡ o → unless_refused refused o (part_answer found) ≡ refused n → IsRefusal n
      go none p e = not_there found n e
      go (some m) p e =
          let h = fault_number_lem mode s m p in
          subst IsRefusal (number_of m n e) (large m (omega arith))

  first_answer_lem : (t n : ℕ) (x : Trace) → Numbered x → first_answer t x ≡ refused n → IsRefusal n
  unfolding first_answer
  first_answer_lem t n done p e = subst IsRefusal (number_of 14 n e) (large 14 (omega arith))
  first_answer_lem t n (fault m start f) p e = subst IsRefusal (number_of m n e) (large m (omega arith))
  first_answer_lem t n (section u f e rest) p q = go (eqb u t) (first_answer_lem t n rest p) q
    where
      go : (b : Bool) → (first_answer t rest ≡ refused n → IsRefusal n) → cond b (success (f ∷ e ∷ [])) (first_answer t rest) ≡ refused n → IsRefusal n
      go true later r = absurd (answered (f ∷ e ∷ []) n r)
      go false later r = later r

  pub first_number_of : (s : List ℕ) (t n : ℕ) → search_first_of mode s t ≡ refused n → IsRefusal n
  first_number_of s t n e = first_answer_lem t n (stream_walk mode s) (numbered_stream mode s) e

  pub append_number : (room used t m n : ℕ) → append_of mode room used t m ≡ refused n → IsRefusal n
  unfolding append_of append_refusals
  append_number room used t m n = go (first_refusal (append_refusals mode room used t m)) refl
    where
      all : AllNumbers IsRefusal (append_refusals mode room used t m)
      all = (two, (two, (two, (large 202 (omega arith), (large 206 (omega arith), (large 206 (omega arith), (large 5 (omega arith), tt)))))))

      go : (o : Option ℕ) → first_refusal (append_refusals mode room used t m) ≡ o → unless_refused refused o (success (used_after mode used m ∷ [])) ≡ refused n → IsRefusal n
      go none p e = absurd (answered _ n e)
      go (some k) p e = subst IsRefusal (number_of k n e) (refusal_number IsRefusal (append_refusals mode room used t m) all k p)

-- ---- the calls on dependency expressions

read_opcode_rows : (n : ℕ) → OfReader n → IsRefusal n
read_opcode_rows n (inl e) = large n (omega arith)
read_opcode_rows n (inr (inl e)) = large n (omega arith)
read_opcode_rows n (inr (inr e)) = large n (omega arith)

pub read_opcode_number : (s : List ℕ) (n : ℕ) → read_opcode s ≡ refused n → IsRefusal n
read_opcode_number s n e = read_opcode_rows n (read_refusal s n e)

write_opcode_rows : (n : ℕ) → OfWriter n → IsRefusal n
write_opcode_rows n (inl e) = large n (omega arith)
write_opcode_rows n (inr (inl e)) = large n (omega arith)
write_opcode_rows n (inr (inr e)) = large n (omega arith)

pub write_opcode_number : (code : ℕ) (operand room : List ℕ) (n : ℕ) → (write_opcode code operand room).answer ≡ refused n → IsRefusal n
write_opcode_number code operand room n e = write_opcode_rows n (write_refusal code operand room n e).0

pub validate_number : (s : List ℕ) (n : ℕ) → validate_of s ≡ refused n → IsRefusal n
validate_number s n e = let h = test_refusal s n e in large n (omega arith)

evaluate_rows : (n : ℕ) → (n ≡ 2) ⊎ ((n ≡ 14) ⊎ OfTest n) → IsRefusal n
evaluate_rows n (inl e) = subst IsRefusal (sym e) two
evaluate_rows n (inr (inl e)) = large n (omega arith)
evaluate_rows n (inr (inr h)) = large n (omega arith)

pub evaluate_number : (rows : List (List ℕ)) (versions : List ℕ) (used : ℕ) (s : List ℕ) (n : ℕ) → evaluate_of rows versions used s ≡ refused n → IsRefusal n
evaluate_number rows versions used s n e = evaluate_rows n (evaluate_refusal rows versions used s n e)
