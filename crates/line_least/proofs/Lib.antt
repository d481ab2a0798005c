pub mod Ranges
pub mod Meaning
