pub mod Bytes
pub mod Cuts
pub mod Isolation
pub mod PowerCut
pub mod Protection
pub mod Theorems
