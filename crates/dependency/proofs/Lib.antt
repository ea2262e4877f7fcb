pub mod Expression
pub mod Theorems
