-- Laws of src/evaluation.rt. Soundness: what passes the test is evaluated soundly. Values: the values as numbers. Runs: one turn of the evaluation.
-- Numbers: what refusals carry. Guids: the GUIDs of an expression.
pub mod Soundness
pub mod Steps
pub mod Runs
pub mod Numbers
pub mod Guids
