pub mod ByteLists
pub mod Lists
