pub mod Opcodes
pub mod Expression
pub mod Installed
pub mod Validation
pub mod Evaluation
pub mod Stack
