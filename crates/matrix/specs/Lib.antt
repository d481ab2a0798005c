pub mod Matrix
pub mod Flat
