-- Laws of lists of requests: a list of orders is a run of its single writes, and demand 3 over lists of requests.
use Prim.Native.Nat.{ℕ, ◌+◌, ◌≤◌, ◌<◌}
use mathlib.Core.Bool.{Bool, true, false, cond, true≢false}
use mathlib.Core.List.{List, [], ◌∷◌, ◌++◌, map}
use mathlib.Core.Path.{◌≡◌, refl, sym, ap, subst, ◌∙◌}
use borrow.Author.Tests.{lt-ltb, le-ltb}
use lib.Dec.{ltb}
use lib.ListN.{length}
use Rattle.common.specs.Answers.{Answer, refused}
use Rattle.volume.specs.State.{map_of}
use Rattle.volume.specs.declared.state.State.{State}
use Rattle.block_service.specs.Service.{Call, Result, step}
use Rattle.block_service.proofs.service.Kept.{length_kept, follows_state}
use Rattle.isolation.specs.Runs.{After, Alike, Isolated, NeverErasedBy, is_success, run, touched}
use Rattle.isolation.proofs.Isolation.{run-append}
use Rattle.write_orders.specs.Orders.{call_of, Batch, batch, writes_from, nothing_yet, most_orders, write_orders}
use Rattle.write_orders.specs.Requests.{writes_of, made_of, Request, call, orders, serve, calls_of, Listed, listed, ServedAlike}
use Rattle.write_orders.specs.declared.Order.{Order}
use Rattle.write_orders.proofs.Lists.{within_limit}
use Rattle.write_orders.proofs.Turns.{order_state}

-- ---- a list of orders is a run of its single writes

abbrev left : State → List ℕ → After
left st v = record { state = st; volume = v }

writes_run : (st : State) (d v : List ℕ) (n : ℕ) (a : Answer) (os : List Order) → run st v (writes_of st d v os) ≡ left st (writes_from st d n a v os).volume
unfolding writes_of writes_from run
writes_run st d v n a [] = refl
writes_run st d v n a (o ∷ os) =
    let w : List ℕ = (step st v (call_of st d o)).volume in
    let t : Bool = is_success (step st v (call_of st d o)).answer in
    subst (λ (s : State). run s w (cond t (writes_of st d w os) []) ≡ left st (writes_from st d n a v (o ∷ os)).volume) (sym (order_state st d o v))
    (go t (writes_run st d w (n + 1) (step st v (call_of st d o)).answer os))
  where
    r : Result
    r = step st v (call_of st d o)

    go : (t : Bool) → run st r.volume (writes_of st d r.volume os) ≡ left st (writes_from st d (n + 1) r.answer r.volume os).volume
        → run st r.volume (cond t (writes_of st d r.volume os) [])
        ≡ left st (cond t (writes_from st d (n + 1) r.answer r.volume os) (batch n r.answer r.volume)).volume
    go true k = k
    go false k = refl

pub made_run : (st : State) (d v : List ℕ) (os : List Order) → run st v (made_of st d v os) ≡ left st (write_orders st d v os).volume
unfolding made_of write_orders run
made_run st d v os = go (ltb most_orders (length os))
  where
    go : (t : Bool) → run st v (cond t [] (writes_of st d v os)) ≡ left st (cond t (batch 0 (refused 2) v) (writes_from st d 0 nothing_yet v os)).volume
    go true = refl
    go false = writes_run st d v 0 nothing_yet os

-- the writes that were made: all of the list's where all succeed, and otherwise those up to the first that does not, and that one
module _ (st : State) (d : List ℕ) where
  abbrev calls : List Order → List Call
  calls os = map (call_of st d) os

  made_from : (v : List ℕ) (n : ℕ) (a : Answer) (os : List Order) → is_success (writes_from st d n a v os).last ≡ true → writes_of st d v os ≡ calls os
  unfolding writes_from writes_of
  made_from v n a [] e = refl
  made_from v n a (o ∷ os) e =
      go (is_success (step st v (call_of st d o)).answer) refl (made_from (step st v (call_of st d o)).volume (n + 1) (step st v (call_of st d o)).answer os) e
    where
      r : Result
      r = step st v (call_of st d o)

      go : (t : Bool) → is_success r.answer ≡ t → (is_success (writes_from st d (n + 1) r.answer r.volume os).last ≡ true → writes_of st d r.volume os ≡ calls os)
          → is_success (cond t (writes_from st d (n + 1) r.answer r.volume os) (batch n r.answer r.volume)).last ≡ true
          → call_of st d o ∷ cond t (writes_of st d r.volume os) [] ≡ call_of st d o ∷ calls os
      go true q ih e = ap (λ (l : List Call). call_of st d o ∷ l) (ih e)
      go false q ih e = absurd (true≢false (sym e ∙ q))

  made_to : (v : List ℕ) (n : ℕ) (a : Answer) (x : List Order) (p : Order) (y : List Order) → is_success (writes_from st d n a v x).last ≡ true
      → is_success (step st (writes_from st d n a v x).volume (call_of st d p)).answer ≡ false → writes_of st d v (x ++ (p ∷ y)) ≡ calls (x ++ (p ∷ []))
  unfolding writes_from writes_of
  made_to v n a [] p y e f = rw f
  made_to v n a (o ∷ x) p y e f =
      go (is_success (step st v (call_of st d o)).answer) refl (made_to (step st v (call_of st d o)).volume (n + 1) (step st v (call_of st d o)).answer x p y) e f
    where
      r : Result
      r = step st v (call_of st d o)

      later : Batch
      later = writes_from st d (n + 1) r.answer r.volume x

      go : (t : Bool) → is_success r.answer ≡ t
          → (is_success later.last ≡ true → is_success (step st later.volume (call_of st d p)).answer ≡ false → writes_of st d r.volume (x ++ (p ∷ y)) ≡ calls (x ++ (p ∷ [])))
          → is_success (cond t later (batch n r.answer r.volume)).last ≡ true
          → is_success (step st (cond t later (batch n r.answer r.volume)).volume (call_of st d p)).answer ≡ false
          → call_of st d o ∷ cond t (writes_of st d r.volume (x ++ (p ∷ y))) [] ≡ call_of st d o ∷ calls (x ++ (p ∷ []))
      go true q ih e f = ap (λ (l : List Call). call_of st d o ∷ l) (ih e f)
      go false q ih e f = absurd (true≢false (sym e ∙ q))

  pub made_none : (v : List ℕ) (os : List Order) → most_orders < length os → made_of st d v os ≡ []
  unfolding made_of
  made_none v os h = rw (lt-ltb most_orders (length os) h)

  pub made_all : (v : List ℕ) (os : List Order) → length os ≤ most_orders → is_success (write_orders st d v os).last ≡ true → made_of st d v os ≡ calls os
  unfolding made_of
  made_all v os few e = rw (le-ltb most_orders (length os) few) (made_from v 0 nothing_yet os (rw (within_limit st d v os few) at e))

  pub made_up_to : (v : List ℕ) (x : List Order) (p : Order) (y : List Order) → length (x ++ (p ∷ y)) ≤ most_orders → length x ≤ most_orders
      → is_success (write_orders st d v x).last ≡ true → is_success (step st (write_orders st d v x).volume (call_of st d p)).answer ≡ false
      → made_of st d v (x ++ (p ∷ y)) ≡ calls (x ++ (p ∷ []))
  unfolding made_of
  made_up_to v x p y all few e f =
      rw (le-ltb most_orders (length (x ++ (p ∷ y))) all)
      (made_to v 0 nothing_yet x p y (rw (within_limit st d v x few) at e) (rw (within_limit st d v x few) at f))

-- a list of requests leaves what its single calls leave
pub calls_run : (st : State) (v : List ℕ) (requests : List Request) → run st v (calls_of st v requests) ≡ serve st v requests
unfolding calls_of serve run
calls_run st v [] = refl
calls_run st v (call c ∷ requests) = calls_run (step st v c).state (step st v c).volume requests
calls_run st v (orders d os ∷ requests) =
    run-append st v (made_of st d v os) (calls_of st (write_orders st d v os).volume requests)
    ∙ rw (made_run st d v os) (calls_run st (write_orders st d v os).volume requests)

-- the volume's length stays
run_length : (st : State) (v : List ℕ) (calls : List Call) → length (run st v calls).volume ≡ length v
unfolding run
run_length st v [] = refl
run_length st v (c ∷ calls) = run_length (step st v c).state (step st v c).volume calls ∙ length_kept st v c

pub orders_length : (st : State) (d v : List ℕ) (os : List Order) → length (write_orders st d v os).volume ≡ length v
orders_length st d v os = ap (λ (x : After). length x.volume) (sym (made_run st d v os)) ∙ run_length st v (made_of st d v os)

-- ---- on two volumes of one length

length-follows : (st : State) (v w : List ℕ) (c : Call) → length v ≡ length w → length (step st v c).volume ≡ length (step st w c).volume
length-follows st v w c e = length_kept st v c ∙ e ∙ sym (length_kept st w c)

-- a list of orders answers the same, and makes the same single writes
module _ (st : State) (d : List ℕ) where
  from-follows : (v w : List ℕ) (n : ℕ) (a : Answer) (os : List Order) → length v ≡ length w
      → ((writes_from st d n a v os).count ≡ (writes_from st d n a w os).count) × ((writes_from st d n a v os).last ≡ (writes_from st d n a w os).last) × (writes_of st d v os ≡ writes_of st d w os)
  unfolding writes_from writes_of
  from-follows v w n a [] e = (refl, refl, refl)
  from-follows v w n a (o ∷ os) e =
      let same = (follows_state st v w (call_of st d o) e).0 in
      rw same
      (go (is_success (step st w (call_of st d o)).answer)
      (from-follows (step st v (call_of st d o)).volume (step st w (call_of st d o)).volume (n + 1) (step st w (call_of st d o)).answer os (length-follows st v w (call_of st d o) e)))
    where
      r : Result
      r = step st v (call_of st d o)

      s : Result
      s = step st w (call_of st d o)

      go : (t : Bool)
          → ((writes_from st d (n + 1) s.answer r.volume os).count ≡ (writes_from st d (n + 1) s.answer s.volume os).count)
          × ((writes_from st d (n + 1) s.answer r.volume os).last ≡ (writes_from st d (n + 1) s.answer s.volume os).last)
          × (writes_of st d r.volume os ≡ writes_of st d s.volume os)
          → ((cond t (writes_from st d (n + 1) s.answer r.volume os) (batch n s.answer r.volume)).count
          ≡ (cond t (writes_from st d (n + 1) s.answer s.volume os) (batch n s.answer s.volume)).count)
          × ((cond t (writes_from st d (n + 1) s.answer r.volume os) (batch n s.answer r.volume)).last
          ≡ (cond t (writes_from st d (n + 1) s.answer s.volume os) (batch n s.answer s.volume)).last)
          × (call_of st d o ∷ cond t (writes_of st d r.volume os) [] ≡ call_of st d o ∷ cond t (writes_of st d s.volume os) [])
      go true k = (k.0, k.1, ap (λ (l : List Call). call_of st d o ∷ l) k.2)
      go false k = (refl, refl, refl)

  pub orders_follow : (v w : List ℕ) (os : List Order) → length v ≡ length w
      → ((write_orders st d v os).count ≡ (write_orders st d w os).count) × ((write_orders st d v os).last ≡ (write_orders st d w os).last) × (made_of st d v os ≡ made_of st d w os)
  unfolding write_orders made_of
  orders_follow v w os e = go (ltb most_orders (length os)) (from-follows v w 0 nothing_yet os e)
    where
      go : (t : Bool)
          → ((writes_from st d 0 nothing_yet v os).count ≡ (writes_from st d 0 nothing_yet w os).count) × ((writes_from st d 0 nothing_yet v os).last ≡ (writes_from st d 0 nothing_yet w os).last) × (writes_of st d v os ≡ writes_of st d w os)
          → ((cond t (batch 0 (refused 2) v) (writes_from st d 0 nothing_yet v os)).count ≡ (cond t (batch 0 (refused 2) w) (writes_from st d 0 nothing_yet w os)).count)
          × ((cond t (batch 0 (refused 2) v) (writes_from st d 0 nothing_yet v os)).last ≡ (cond t (batch 0 (refused 2) w) (writes_from st d 0 nothing_yet w os)).last)
          × (cond t [] (writes_of st d v os) ≡ cond t [] (writes_of st d w os))
      go true k = (refl, refl, refl)
      go false k = k

-- so requests stand for the same single calls on both volumes, and the lists among them answer the same
pub requests_follow : (st : State) (v w : List ℕ) (requests : List Request) → length v ≡ length w
    → (calls_of st v requests ≡ calls_of st w requests) × (listed st v requests ≡ listed st w requests)
unfolding calls_of listed
requests_follow st v w [] e = (refl, refl)
requests_follow st v w (call c ∷ requests) e =
    let k = requests_follow (step st w c).state (step st v c).volume (step st w c).volume requests (length-follows st v w c e) in
    rw (follows_state st v w c e).1 (ap (λ (l : List Call). c ∷ l) k.0, k.1)
requests_follow st v w (orders d os ∷ requests) e =
    let b = orders_follow st d v w os e in
    let k = requests_follow st (write_orders st d v os).volume (write_orders st d w os).volume requests (orders_length st d v os ∙ e ∙ sym (orders_length st d w os)) in
    rw (b.0, b.1, b.2) (
      ap (λ (l : List Call). made_of st d w os ++ l) k.0,
      ap (λ (l : List Listed). record { count = (write_orders st d w os).count; last = (write_orders st d w os).last } ∷ l) k.1,
    )

-- and where demand 3 holds of the single calls, what they leave is alike
pub served_alike : (D : ℕ → Type 0) (st : State) (v w : List ℕ) (requests : List Request) → length v ≡ length w → Isolated D st v w (calls_of st v requests) → ServedAlike D st v w requests
served_alike D st v w requests e i =
    let k = requests_follow st v w requests e in
    let left-v = calls_run st v requests in
    let left-w = ap (run st w) k.0 ∙ calls_run st w requests in
    record {
      same_calls = k.0;
      same_answers = k.1;
      isolated = i;
      end_state = ap (λ (x : After). x.state) (sym left-v) ∙ i.end_state ∙ ap (λ (x : After). x.state) left-w;
      end_volume =
          subst (λ (x : After). Alike (map_of st) (NeverErasedBy touched D st v (calls_of st v requests)) (serve st v requests).volume x.volume) left-w
          (subst (λ (x : After). Alike (map_of st) (NeverErasedBy touched D st v (calls_of st v requests)) x.volume (run st w (calls_of st v requests)).volume) left-v i.end_volume);
    }
