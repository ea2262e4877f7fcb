-- Laws of src/validation.rt. Passing: what an opcode that passes says of the kinds. Digits: the kinds as a number. Turns: one turn of the test.
pub mod Passing
pub mod Digits
pub mod Turns
