-- The rows of the table; an acceptance that none refuses only answers.
use mathlib.Core.Path.{◌≡◌, sym, ◌∙◌}
use borrow.Author.Rules.{rules}
use Rattle.std.specs.Prelude.{Err}
use Rattle.block_service.specs.Service.{accept_erase, accepted_answer, buffer_of, refusals, perform, effect}
use Rattle.block_service.proofs.service.Steps.{refused-step, allowed_step, lent_first, lent_then}
use Rattle.block_service.proofs.jobs.accept_erase.Goals as goal

pub returns-in_err-write_refusal : goal.returns-in_err-write_refusal
unfolding accepted_answer buffer_of refusals
returns-in_err-write_refusal g c =
    let r : c.from_residual.result ≡ Err c.in_err-write_refusal.field-0.0 = search rules in
    rw r (refused-step _ _ (accept_erase _) _ (lent_first _ _ _ _ _ (sym c.in_err-write_refusal.ensures)))

pub returns-in_err-list_refusal : goal.returns-in_err-list_refusal
unfolding accepted_answer buffer_of refusals
returns-in_err-list_refusal g c =
    let r : c.from_residual-in_err-list_refusal.result ≡ Err c.in_err-list_refusal.field-0.0 = search rules in
    rw r (refused-step _ _ (accept_erase _) _ (lent_then _ _ _ _ (sym c.in_ok-write_refusal.ensures) ∙ sym (rw c.block_count.ensures at c.in_err-list_refusal.ensures)))

pub returns : goal.returns
unfolding accepted_answer buffer_of refusals perform effect
returns g c = allowed_step _ _ (accept_erase _) (lent_then _ _ _ _ (sym c.in_ok-write_refusal.ensures) ∙ sym (rw c.block_count.ensures at c.in_ok-list_refusal.ensures))
