pub mod Operations
pub mod Sequences
