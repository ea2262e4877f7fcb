-- Laws of src/opcodes.rt. Rows: the rows of the list of opcodes. Texts: the length of a text. Single: the answers of reader and writer. Widths: round trips.
pub mod Rows
pub mod Texts
pub mod Single
pub mod Widths
