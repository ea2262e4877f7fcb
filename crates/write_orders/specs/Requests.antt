-- Lists of requests, each one of the block service's calls or a list of write orders, and the single calls that they stand for (document 02, e: "Demand 3 takes the call as
-- its single writes").
use Rattle.std.specs.Prelude.{ℕ, cond, List, [], ◌∷◌, ◌++◌, ◌≡◌, ltb, length}
use Rattle.common.specs.Answers.{Answer}
use Rattle.volume.specs.State.{map_of}
use Rattle.volume.specs.declared.state.State.{State}
use Rattle.block_service.specs.Service.{Call, step}
use Rattle.isolation.specs.Runs.{After, Alike, Isolated, NeverErasedBy, is_success, touched}
use Rattle.write_orders.specs.Orders.{call_of, most_orders, write_orders}
use Rattle.write_orders.specs.declared.Order.{Order}

-- the single writes that are made of a list of orders: those up to the first whose answer is not success, and that one
unfoldable pub writes_of : State → List ℕ → List ℕ → List Order → List Call
writes_of st d v [] = []
writes_of st d v (o ∷ os) =
    let r = step st v (call_of st d o) in
    let later = writes_of st d r.volume os in
    call_of st d o ∷ cond (is_success r.answer) later []

-- and none of a list that is too long
unfoldable pub made_of : State → List ℕ → List ℕ → List Order → List Call
made_of st d v os = cond (ltb most_orders (length os)) [] (writes_of st d v os)

-- a request: one of the ten calls, or a list of orders with its data buffer
pub data Request : Type 0 where
  call : Call → Request
  orders : List ℕ → List Order → Request

-- what is left after a list of requests: the state and the volume
unfoldable pub serve : State → List ℕ → List Request → After
serve st v [] = record { state = st; volume = v }
serve st v (call c ∷ requests) = let r = step st v c in serve r.state r.volume requests
serve st v (orders d os ∷ requests) = serve st (write_orders st d v os).volume requests

-- the single calls that they stand for
unfoldable pub calls_of : State → List ℕ → List Request → List Call
calls_of st v [] = []
calls_of st v (call c ∷ requests) = let r = step st v c in c ∷ calls_of r.state r.volume requests
calls_of st v (orders d os ∷ requests) = made_of st d v os ++ calls_of st (write_orders st d v os).volume requests

-- what the lists of orders among them answer: how many writes succeeded, and the last answer
pub record Listed : Type 0 where
  pub count : ℕ
  pub last : Answer

unfoldable pub listed : State → List ℕ → List Request → List Listed
listed st v [] = []
listed st v (call c ∷ requests) = let r = step st v c in listed r.state r.volume requests
listed st v (orders d os ∷ requests) =
    let b = write_orders st d v os in
    record { count = b.count; last = b.last } ∷ listed st b.volume requests

-- what demand 3 claims of a list of requests on two volumes: it stands for the same single calls on both, its lists of orders answer the same, demand 3 holds of the single calls,
-- and what the requests leave is alike outside the blocks of the set that were never successfully erased
pub record ServedAlike (D : ℕ → Type 0) (st : State) (v w : List ℕ) (requests : List Request) : Type 0 where
  pub same_calls : calls_of st v requests ≡ calls_of st w requests
  pub same_answers : listed st v requests ≡ listed st w requests
  pub isolated : Isolated D st v w (calls_of st v requests)
  pub end_state : (serve st v requests).state ≡ (serve st w requests).state
  pub end_volume : Alike (map_of st) (NeverErasedBy touched D st v (calls_of st v requests)) (serve st v requests).volume (serve st w requests).volume
