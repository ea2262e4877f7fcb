-- Laws of src/dependency_calls.rt. Calls: bytes too few, and what the inner call came to. Tables: the rows of a table of installed firmware.
pub mod Calls
pub mod Tables
