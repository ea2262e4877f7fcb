pub mod Carried
pub mod Lists
pub mod OrderBytes
pub mod Requests
pub mod Theorems
pub mod Turns
