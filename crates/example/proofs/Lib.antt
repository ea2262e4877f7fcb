pub mod Chain
pub mod Masks
pub mod Theorems
