-- `volume::header::open_volume` meets its contract: the two tables in a row, and the state that the second judges, whose parts are the header's.
use Rattle.std.proofs.Common.{◌≡◌, ℕ, ◌-◌, ◌/◌, sym, refl, ap, ◌∙◌, rules}
use Rattle.std.specs.Prelude.{Err}
use Rattle.volume.specs.BlockMap.{blocks}
use Rattle.volume.specs.Header.{entries_of, fields_refusals, map_fault, open_refusals, opening_of, state_at}
use Rattle.volume.specs.State.{map_of, state_with}
use Rattle.volume.specs.declared.state.State.{State}
use Rattle.common.specs.Refusals.{first_refusal}
use Rattle.volume.proofs.header.Fields.{state_parts, open_early, open_late, open_success}
use Rattle.volume.proofs.header.open_volume.Goals as goal
use Rattle.volume.proofs.header.open_volume.Goals.{After-read_map}

-- the parts that are read make the header's state, once its blocks are counted; the second table judges them before, and does not read that count
module _ (c : After-read_map) where
  abbrev state : ℕ → State
  state protected =
      record {
        guid = c.guid_at.result;
        length = c.u64_at.result;
        attributes = c.u32_at.result;
        edition = c.from.result;
        base = c.args.base;
        protected = protected;
        entries = (c.from-header.result - 64) / 8;
        map = c.read_map.new.map;
      }

  made : state (blocks (map_of (state 0))) ≡ state_at c.args.volume.now c.args.base
  unfolding state_with map_of
  made =
      rw c.guid_at.ensures
      (state_parts c.args.volume.now c.args.base c.u64_at.ensures c.u32_at.ensures (c.from.ensures ∙ c.byte_at.ensures) (ap entries_of (c.from-header.ensures ∙ c.u16_at.ensures)) c.read_map.ensures)

  unread : (protected : ℕ) → first_refusal (fields_refusals c.args.volume.now (state 0)) ≡ first_refusal (fields_refusals c.args.volume.now (state protected))
  unfolding open_refusals map_fault map_of
  unread protected = refl

  judged : first_refusal (fields_refusals c.args.volume.now (state 0)) ≡ first_refusal (fields_refusals c.args.volume.now (state_at c.args.volume.now c.args.base))
  judged = unread (blocks (map_of (state 0))) ∙ ap (λ (st : State). first_refusal (fields_refusals c.args.volume.now st)) made

pub returns-in_err-test_bytes : goal.returns-in_err-test_bytes
unfolding opening_of
returns-in_err-test_bytes c =
    let r : c.from_residual.result ≡ Err c.in_err-test_bytes.field-0.0 = search rules in
    rw r (open_early _ _ _ (sym c.in_err-test_bytes.ensures))

pub returns-in_err-test_fields : goal.returns-in_err-test_fields
unfolding opening_of
returns-in_err-test_fields c =
    let r : c.from_residual-in_err-test_fields.result ≡ Err c.in_err-test_fields.field-0.0 = search rules in
    let same = judged (goal.at.returns-in_err-test_fields c).After-read_map in
    rw r (open_late _ _ (sym c.in_ok-test_bytes.ensures) _ (sym (c.in_err-test_fields.ensures ∙ same)))

pub returns : goal.returns
unfolding opening_of
returns c =
    let place = (goal.at.returns c).After-read_map in
    rw (c.block_count.ensures, made place) (open_success _ _ (sym c.in_ok-test_bytes.ensures) (sym (c.in_ok-test_fields.ensures ∙ judged place)))
