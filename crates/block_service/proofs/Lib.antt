pub mod FirstEdition
pub mod Theorems
