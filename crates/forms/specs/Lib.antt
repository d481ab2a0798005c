pub mod Bytes
pub mod Shape
pub mod Decimal
