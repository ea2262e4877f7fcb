pub mod Attributes
pub mod BlockMap
pub mod ExtendedEntry
pub mod ExtendedHeader
pub mod Header
pub mod HeaderWriter
pub mod State
