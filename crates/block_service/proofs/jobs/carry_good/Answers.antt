-- After the count, which stores nothing, the job is refused, the list is, or the portion is stored, to the end or short of it.
use native.Mathlib.Omega.{arith}
use borrow.Author.Rules.{rules}
use Rattle.block_service.proofs.service.Carrying.{progress_2, progress_15, progress_done, progress_job, given-le}
use Rattle.block_service.proofs.jobs.carry_good.Goals as goal

pub returns-then-not-job_given : goal.returns-then-not-job_given
returns-then-not-job_given g c = let n = c.carry_list-all.ensures in progress_2 _ _ _ _ _ _ _ _ _ c.job_given.ensures n.0 n.1 c.if-not-job_given.true _

pub returns-then-reached : goal.returns-then-reached
returns-then-reached g c = let n = c.carry_list-all.ensures in progress_15 _ _ _ _ _ _ _ _ _ c.job_given.ensures n.0 n.1 c.if-not-job_given.false _ (search rules)

pub overflow_sub-left : goal.overflow_sub-left
overflow_sub-left g c = given-le _ _ _ c.job_given.ensures c.if-not-job_given.false

pub returns-then-left-most : goal.returns-then-left-most
returns-then-left-most g c =
    let n = c.carry_list-all.ensures in
    progress_done _ _ _ _ _ _ _ _ _ c.job_given.ensures n.0 n.1 c.if-not-job_given.false _ (search rules) (omega arith) _ c.carry_list.ensures.1

pub returns : goal.returns
returns g c =
    let n = c.carry_list-all.ensures in
    progress_job _ _ _ _ _ _ _ _ _ c.job_given.ensures n.0 n.1 c.if-not-job_given.false _ (search rules) (omega arith) _ c.carry_list-2.ensures.1
