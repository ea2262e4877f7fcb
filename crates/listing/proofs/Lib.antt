pub mod Lines
pub mod Longest
pub mod Room
pub mod Theorems
