pub mod LittleEndian
pub mod Theorems
