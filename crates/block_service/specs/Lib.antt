pub mod Access
pub mod Blocks
pub mod Carry
pub mod Erase
pub mod Judged
pub mod Marks
pub mod Order
pub mod Service
