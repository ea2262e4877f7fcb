-- `fv::job_calls::store_job` meets its contract.
use borrow.Author.Rules.{rules}
use Rattle.fv.proofs.job_calls.Calls.{job_stored_lem}
use Rattle.fv.proofs.job_calls.store_job.Goals as goal

pub returns : goal.returns
returns c = job_stored_lem _ _ (search rules) c.store.ensures
