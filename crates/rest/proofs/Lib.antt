pub mod Resting
pub mod Rows
