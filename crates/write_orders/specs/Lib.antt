pub mod Orders
pub mod Requests
