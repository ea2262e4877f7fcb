-- `walk_stream` meets its contract, turn by turn.
use Prim.Native.Nat.{ℕ, ◌≤◌}
use lib.ListN.{length}
use borrow.Author.Rules.{rules}
use native.Mathlib.Omega.{arith}
use mathlib.Core.Path.{◌≡◌, refl, sym, ap, ◌∙◌}
use Rattle.std.specs.Option.{is_some}
use Rattle.std.proofs.lemmas.Bool.{false≢true}
use Rattle.std.proofs.lemmas.Result.{err_from_is_err_and}
use Rattle.sections.specs.Seek.{run, carried}
use Rattle.sections.specs.declared.walk.Walk.TheVariants.{Ended}
use Rattle.sections.proofs.walk.Carried.{carried_fault, ended_refused, ended_stopped}
use Rattle.sections.proofs.walk.Turns.{Behind, going_start, going_end, turn_fault, turn_205, turn_stop, turn_children, turn_behind, turn_next, turn_207, turn_end}
use Rattle.sections.proofs.walk.+walk_stream.Goals as goal
use Rattle.sections.proofs.walk.+walk_stream.Goals.{After-next_start}
use Rattle.sections.proofs.walk.+walk_stream.Goals.{in-None+in_default, in-Some+else-below-eq0+in_default-visit+in_ok-walk_stream-in-Some+in_default-2+else-s-section}

pub loop-at-init : goal.loop-at-init
loop-at-init t c = record { same = refl; going = going_start _ _ _ _ _ _ }

pub returns-in_err-section-clause-walked : goal.returns-in_err-section-clause-walked
returns-in_err-section-clause-walked t c =
    let p = err_from_is_err_and c.from_residual.result c.from_residual.ensures.1 in
    rw (p.1, p.2)
    (carried_fault _ c.loop-at.wanted ∙ turn_fault _ c.loop-at.invariant.going c.loop-at-test.true c.in_err-section.ensures.read)

pub returns-then-below-eq0-clause-walked : goal.returns-then-below-eq0-clause-walked
returns-then-below-eq0-clause-walked t c =
    carried_fault _ c.loop-at.wanted
    ∙ turn_205 _ c.loop-at.invariant.going c.loop-at-test.true c.in_ok-section.section c.in_ok-section.ensures.read (ap is_some c.in-Some.is) c.if-below-eq0.true

-- a section that is not opened
pub returns-in-Stopped-clause-walked : goal.returns-in-Stopped-clause-walked
returns-in-Stopped-clause-walked t c =
    turn_stop _ c.loop-at.invariant.going c.loop-at-test.true c.in_ok-section.section c.in_ok-section.ensures.read
    (λ some zero. false≢true (sym (ap is_some c.in-None.is) ∙ some))
    (rw c.loop-at.invariant.same at c.in-Stopped.ensures.visited) (ended_stopped _ _)

-- one whose contents are searched: they lie on no ninth level
pub returns-in-Stopped-visit-clause-walked : goal.returns-in-Stopped-visit-clause-walked
returns-in-Stopped-visit-clause-walked t c =
    turn_stop _ c.loop-at.invariant.going c.loop-at-test.true c.in_ok-section.section c.in_ok-section.ensures.read
    (λ some zero. c.if-below-eq0.false zero)
    (rw c.loop-at.invariant.same at c.in-Stopped-visit.ensures.visited) (ended_stopped _ _)

pub returns-in_err-walk_stream-in-Some-clause-walked : goal.returns-in_err-walk_stream-in-Some-clause-walked
returns-in_err-walk_stream-in-Some-clause-walked t c =
    let p = err_from_is_err_and c.from_residual-in_err-walk_stream-in-Some.result c.from_residual-in_err-walk_stream-in-Some.ensures.1 in
    let kept = c.in_default-visit.ensures.same ∙ c.loop-at.invariant.same in
    rw (p.1, p.2)
    (turn_children _ c.loop-at.invariant.going c.loop-at-test.true c.in_ok-section.section c.in_ok-section.ensures.read
    (λ some zero. c.if-below-eq0.false zero)
    (rw c.loop-at.invariant.same at c.in_default-visit.ensures.visited) (rw c.in-Some.is (rw kept at c.in_err-walk_stream-in-Some.ensures.walked)) (ended_refused _ _))

pub returns-in-Stopped-2-clause-walked : goal.returns-in-Stopped-2-clause-walked
returns-in-Stopped-2-clause-walked t c =
    let kept = c.in_default-visit.ensures.same ∙ c.loop-at.invariant.same in
    turn_children _ c.loop-at.invariant.going c.loop-at-test.true c.in_ok-section.section c.in_ok-section.ensures.read
    (λ some zero. c.if-below-eq0.false zero)
    (rw c.loop-at.invariant.same at c.in_default-visit.ensures.visited) (rw c.in-Some.is (rw (kept, c.in-Stopped-2.is) at c.in_ok-walk_stream-in-Some.ensures.walked))
    (ended_stopped _ _)

-- a holder that ends the stream
pub returns-then-s-section-clause-walked : goal.returns-then-s-section-clause-walked
returns-then-s-section-clause-walked t c =
    let e : length c.args.s.now ≡ c.in_ok-section.section.end = search rules in
    let ends : length c.args.s.now ≤ c.in_ok-section.section.end = omega arith in
    let kept = c.in_default-visit.ensures.same ∙ c.loop-at.invariant.same in
    let behind = turn_behind _ c.loop-at.invariant.going c.loop-at-test.true c.in_ok-section.section c.in_ok-section.ensures.read
    (λ some zero. c.if-below-eq0.false zero)
    (rw c.loop-at.invariant.same at c.in_default-visit.ensures.visited)
    (rw c.in-Some.is (rw (kept, c.in_default-2.is) at c.in_ok-walk_stream-in-Some.ensures.walked)) in
    turn_end _ c.loop-at.invariant.going c.loop-at-test.true c.in_ok-section.section c.in_ok-section.ensures.read _ behind ends

-- after the children, where there are any
joined : (t : ℕ) (c : After-next_start t) → (c.match-section.wanted.section_type ≡ c.args.wanted.now.section_type)
    × (Behind c.args.mode c.loop-at.invariant.going c.loop-at-test.true c.in_ok-section.section c.in_ok-section.ensures.read (carried Ended c.match-section.wanted))
unfolding run
joined t c =
    elim c.match-section.branch [
      | in-Some+else-below-eq0+in_default-visit+in_ok-walk_stream-in-Some+in_default-2+else-s-section w ↦
          let kept = w.in_default-visit.ensures.same ∙ c.loop-at.invariant.same in
          rw w.wanted-is (
            w.in_ok-walk_stream-in-Some.ensures.same ∙ kept,
            turn_behind _ c.loop-at.invariant.going c.loop-at-test.true c.in_ok-section.section c.in_ok-section.ensures.read (λ some zero. w.if-below-eq0.false zero)
                (rw c.loop-at.invariant.same at w.in_default-visit.ensures.visited)
                (rw w.in-Some.is (rw (kept, w.in_default-2.is) at w.in_ok-walk_stream-in-Some.ensures.walked)),
          )
      | in-None+in_default w ↦
          rw w.wanted-is (
            w.in_default.ensures.same ∙ c.loop-at.invariant.same,
            turn_behind _ c.loop-at.invariant.going c.loop-at-test.true c.in_ok-section.section c.in_ok-section.ensures.read
                (λ some zero. false≢true (sym (ap is_some w.in-None.is) ∙ some))
                (rw c.loop-at.invariant.same at w.in_default.ensures.visited)
                (rw w.in-None.is refl),
          )
    ]

pub returns-in_err-at-clause-walked : goal.returns-in_err-at-clause-walked
returns-in_err-at-clause-walked t c =
    let j = joined _ (goal.at.returns-in_err-at-clause-walked t c).After-next_start in
    let p = err_from_is_err_and c.from_residual-in_err-at.result c.from_residual-in_err-at.ensures.1 in
    rw (p.1, p.2, c.in_err-at.ensures.0)
    (carried_fault _ c.match-section.wanted
    ∙ turn_207 _ c.loop-at.invariant.going c.loop-at-test.true c.in_ok-section.section c.in_ok-section.ensures.read (carried Ended c.match-section.wanted) j.1 c.in_err-at.ensures.1)

pub loop-at-preserved : goal.loop-at-preserved
loop-at-preserved t c =
    let j = joined _ (goal.at.loop-at-preserved t c).After-next_start in
    record {
      same = j.0;
      going = turn_next _ c.loop-at.invariant.going c.loop-at-test.true c.in_ok-section.section c.in_ok-section.ensures.read (carried Ended c.match-section.wanted) j.1 c.in_ok-at.ensures.0 c.in_ok-at.ensures.1;
    }

pub returns-clause-walked : goal.returns-clause-walked
returns-clause-walked t c = going_end _ c.loop-at.invariant.going c.loop-at-test.false
