pub mod Append
pub mod Header
pub mod Partial
pub mod Search
pub mod Seek
pub mod Types
pub mod Walk
