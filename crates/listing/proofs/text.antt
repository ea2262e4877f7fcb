pub mod Decimal
pub mod Field
