mod Lines
mod Parts
mod Sequences
pub mod Proved
