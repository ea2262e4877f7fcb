pub mod Fills
pub mod OrderLists
pub mod Orders
pub mod Portions
pub mod Walks
