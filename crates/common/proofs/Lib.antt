pub mod Bits
pub mod Edit
pub mod Lists
pub mod Refusals
pub mod Theorems
