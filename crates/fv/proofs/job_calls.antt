-- Laws of src/job_calls.rt. Calls: bytes too few, and what the inner call came to.
pub mod Calls
