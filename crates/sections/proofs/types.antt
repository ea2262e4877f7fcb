-- Laws of the section types.
-- Rows: each number of the list, every other number, the least sizes, and which types are holders.
pub mod Rows
