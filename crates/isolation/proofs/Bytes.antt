-- The core of demand 3, over bytes: two volumes that agree outside a set of bytes give the same answers, states and buffers on every
-- run that reads no byte of the set before it was erased, and at the end agree outside the bytes of the set that were never erased.
-- Nothing here knows of blocks.
use Prim.Native.Nat.{ℕ, ◌+◌, ◌≤◌, ◌<◌}
use mathlib.Core.Path.{◌≡◌, refl, sym, ap, ap₂, ◌∙◌}
use mathlib.Core.Bool.{Bool, true, false, not, ◌||◌}
use mathlib.Core.List.{List, [], ◌∷◌, ◌++◌}
use native.Mathlib.Nat.{zero-add}
use native.Mathlib.Omega.{arith}
use borrow.Author.Tests.{lt-ltb, le-leb, ltb-true, ltb-false}
use lib.Dec.{T, ltb}
use lib.ListN.{length, get_or, take, drop, get_or-eq_default, length-take, length-drop}
use lib.Seq.{ext_get_or, get_or-take, get_or-drop}
use Rattle.common.specs.Answers.{Answer}
use Rattle.common.specs.Lists.{edit}
use Rattle.block_service.specs.Access.{ByteChange, keep, store, erase, changed_byte}
use Rattle.block_service.specs.Service.{Call, Effect, reply, set_to, copy_out, change, decide, Result, perform, buffer_of, step}
use Rattle.volume.specs.declared.state.State.{State}
use Rattle.isolation.specs.Bytes.{is_erase, erases_byte, copies_byte, erased_in_run, Agree, Without, Unread, IsolatedBytes}
use Rattle.isolation.specs.Runs.{run, Seen, seen}
use Rattle.common.proofs.Edit.{length-edit, get_or-edit}

-- ---- one effect on both volumes

module _ (st : State) (buffer : List ℕ) where
  same_answer : (e : Effect) (v w : List ℕ) → (perform st v buffer e).answer ≡ (perform st w buffer e).answer
  unfolding perform
  same_answer (reply a) v w = refl
  same_answer (set_to next a) v w = refl
  same_answer (copy_out at n a) v w = refl
  same_answer (change f a) v w = refl

  same_state : (e : Effect) (v w : List ℕ) → (perform st v buffer e).state ≡ (perform st w buffer e).state
  unfolding perform
  same_state (reply a) v w = refl
  same_state (set_to next a) v w = refl
  same_state (copy_out at n a) v w = refl
  same_state (change f a) v w = refl

  same_length : (e : Effect) (v w : List ℕ) → length v ≡ length w → length (perform st v buffer e).volume ≡ length (perform st w buffer e).volume
  unfolding perform
  same_length (reply a) v w h = h
  same_length (set_to next a) v w h = h
  same_length (copy_out at n a) v w h = h
  same_length (change f a) v w h = length-edit _ 0 v ∙ h ∙ sym (length-edit _ 0 w)

  -- the bytes copied out agree
  same_buffer : (X : ℕ → Type 0) (e : Effect) (v w : List ℕ) → length v ≡ length w → Agree X v w → ((i : ℕ) → T (copies_byte e i) → X i → ⊥)
      → (perform st v buffer e).buffer ≡ (perform st w buffer e).buffer
  unfolding perform copies_byte
  same_buffer X (reply a) v w h g k = refl
  same_buffer X (set_to next a) v w h g k = refl
  same_buffer X (copy_out at n a) v w h g k =
      ap (λ (l : List ℕ). l ++ drop n buffer)
      (ext_get_or 0 (take n (drop at v)) (take n (drop at w)) (simp (length-take, length-drop, h))
      (λ i p.
      let q : i < n = omega (arith, rw (length-take n (drop at v)) at p) in
      rw (get_or-take n (drop at v) i 0 q, get_or-take n (drop at w) i 0 q, get_or-drop at v i 0, get_or-drop at w i 0)
      (g (at + i) (k (at + i) (rw (le-leb at (at + i) (omega arith), lt-ltb (at + i) (at + n) (omega arith)) tt)))))
  same_buffer X (change f a) v w h g k = refl

  -- and so do the bytes that are left, outside what was not erased
  same_bytes : (X : ℕ → Type 0) (e : Effect) (v w : List ℕ) → length v ≡ length w → Agree X v w
      → Agree (Without X e) (perform st v buffer e).volume (perform st w buffer e).volume
  unfolding perform erases_byte is_erase changed_byte
  same_bytes X (reply a) v w h g i k = g i (λ x. k (x, tt))
  same_bytes X (set_to next a) v w h g i k = g i (λ x. k (x, tt))
  same_bytes X (copy_out at n a) v w h g i k = g i (λ x. k (x, tt))
  same_bytes X (change f a) v w h g i k = go (ltb i (length v)) refl
    where
      F : ℕ → ℕ → ℕ
      F = λ j old. changed_byte st.attributes (f j) old

      each : (b : ByteChange) → f i ≡ b → changed_byte st.attributes (f i) (get_or v i 0) ≡ changed_byte st.attributes (f i) (get_or w i 0)
      each keep q = ap (λ (x : ℕ). changed_byte st.attributes (f i) x) (g i (λ x. k (x, rw q tt)))
      each (store y) q = ap (λ (x : ℕ). changed_byte st.attributes (f i) x) (g i (λ x. k (x, rw q tt)))
      each erase q = rw q

      go : (t : Bool) → ltb i (length v) ≡ t → get_or (edit F 0 v) i 0 ≡ get_or (edit F 0 w) i 0
      go true q =
          let p : i < length v = ltb-true _ _ q in
          rw (get_or-edit F 0 v i p, get_or-edit F 0 w i (omega arith), zero-add i) (each (f i) refl)
      go false q =
          let p : length v ≤ i = ltb-false _ _ q in
          get_or-eq_default (edit F 0 v) 0 {n = i} (rw (length-edit F 0 v) p)
          ∙ sym (get_or-eq_default (edit F 0 w) 0 {n = i} (rw (length-edit F 0 w) (omega arith)))

-- ---- one call on both volumes, and a run

-- two records of what is seen, from their parts
same_seen : (a b : Answer) (s t : State) (x y : List ℕ) → a ≡ b → s ≡ t → x ≡ y
    → ◌≡◌ {A = Seen} (record { answer = a; state = s; buffer = x }) (record { answer = b; state = t; buffer = y })
same_seen a b s t x y p q r = λ i. record { answer = p i; state = q i; buffer = r i }

-- a set less what an effect erases, less what a run erases, is the set less what both erase
not_or : (a b : Bool) → T (not a) → T (not b) → T (not (a || b))
not_or true b p q = absurd p
not_or false b p q = q

-- one call on both volumes: the effect is the same, since it is decided from the state, the length and the arguments
module _ (X : ℕ → Type 0) (st : State) (v w : List ℕ) (c : Call) (h : length v ≡ length w) where
  other_step : step st w c ≡ perform st w (buffer_of c) (decide st (length v) c)
  unfolding step
  other_step = ap (λ (n : ℕ). perform st w (buffer_of c) (decide st n c)) (sym h)

  call_answer : (step st v c).answer ≡ (step st w c).answer
  unfolding step
  call_answer = same_answer st (buffer_of c) (decide st (length v) c) v w ∙ sym (ap (λ (r : Result). r.answer) other_step)

  call_state : (step st v c).state ≡ (step st w c).state
  unfolding step
  call_state = same_state st (buffer_of c) (decide st (length v) c) v w ∙ sym (ap (λ (r : Result). r.state) other_step)

  call_length : length (step st v c).volume ≡ length (step st w c).volume
  unfolding step
  call_length = same_length st (buffer_of c) (decide st (length v) c) v w h ∙ sym (ap (λ (r : Result). length r.volume) other_step)

  call_buffer : Agree X v w → ((i : ℕ) → T (copies_byte (decide st (length v) c) i) → X i → ⊥) → (step st v c).buffer ≡ (step st w c).buffer
  unfolding step
  call_buffer g k = same_buffer st (buffer_of c) X (decide st (length v) c) v w h g k ∙ sym (ap (λ (r : Result). r.buffer) other_step)

  call_bytes : Agree X v w → Agree (Without X (decide st (length v) c)) (step st v c).volume (step st w c).volume
  unfolding step
  call_bytes g i k =
      same_bytes st (buffer_of c) X (decide st (length v) c) v w h g i k ∙ sym (ap (λ (r : Result). get_or r.volume i 0) other_step)

-- at the end: whatever was read
run-same : (X : ℕ → Type 0) (st : State) (v w : List ℕ) (cs : List Call) → length v ≡ length w → Agree X v w
    → ((run st v cs).state ≡ (run st w cs).state) × (length (run st v cs).volume ≡ length (run st w cs).volume)
    × Agree (λ i. X i × T (not (erased_in_run st v cs i))) (run st v cs).volume (run st w cs).volume
unfolding run erased_in_run
run-same X st v w [] h g = (refl, h, λ i p. g i (λ x. p (x, tt)))
run-same X st v w (c ∷ cs) h g =
    let e : Effect = decide st (length v) c in
    let v' : List ℕ = (step st v c).volume in
    let w' : List ℕ = (step st w c).volume in
    let s = call_state X st v w c h in
    let r = run-same (Without X e) (step st v c).state v' w' cs (call_length X st v w c h) (call_bytes X st v w c h g) in (
      r.0 ∙ ap (λ (t : State). (run t w' cs).state) s,
      r.1 ∙ ap (λ (t : State). length (run t w' cs).volume) s,
      λ i p.
          r.2 i (λ x. p (x.0.0, not_or (erases_byte e i) (erased_in_run (step st v c).state v' cs i) x.0.1 x.1))
          ∙ ap (λ (t : State). get_or (run t w' cs).volume i 0) s,
    )

-- a byte that was erased
pub erased_agrees : (st : State) (v w : List ℕ) (cs : List Call) → length v ≡ length w → (i : ℕ) → T (erased_in_run st v cs i)
    → get_or (run st v cs).volume i 0 ≡ get_or (run st w cs).volume i 0
erased_agrees st v w cs h i t = (run-same (λ j. Unit {0}) st v w cs h (λ j p. absurd (p tt))).2 i (λ x. both (erased_in_run st v cs i) t x.1)
  where
    both : (b : Bool) → T b → T (not b) → ⊥
    both true p q = q
    both false p q = p

-- what is seen, where no byte of the set is read before it was erased
seen_same : (X : ℕ → Type 0) (st : State) (v w : List ℕ) (cs : List Call) → length v ≡ length w → Agree X v w → Unread X st v cs → seen st v cs ≡ seen st w cs
unfolding seen Unread
seen_same X st v w [] h g k = refl
seen_same X st v w (c ∷ cs) h g k =
    let w' : List ℕ = (step st w c).volume in
    let s = call_state X st v w c h in
    ap₂ (λ (a : Seen) (l : List Seen). a ∷ l)
    (same_seen (step st v c).answer (step st w c).answer (step st v c).state (step st w c).state (step st v c).buffer (step st w c).buffer
    (call_answer X st v w c h) s (call_buffer X st v w c h g k.0))
    (seen_same (Without X (decide st (length v) c)) (step st v c).state (step st v c).volume w' cs (call_length X st v w c h) (call_bytes X st v w c h g) k.1
    ∙ ap (λ (t : State). seen t w' cs) s)

-- the core of demand 3
pub isolated-bytes : (X : ℕ → Type 0) (st : State) (v w : List ℕ) (cs : List Call) → length v ≡ length w → Agree X v w → Unread X st v cs
    → IsolatedBytes X st v w cs
isolated-bytes X st v w cs h g k =
    let r = run-same X st v w cs h g in
    record { all_seen = seen_same X st v w cs h g k; end_state = r.0; end_length = r.1; end_bytes = r.2 }
