-- Laws of src/installed.rt. Table: the table as the two loops go through it, and what it does not depend on.
pub mod Table
