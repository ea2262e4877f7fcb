pub mod FrameworkMode
pub mod Theorems
