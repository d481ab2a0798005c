pub mod Lines
pub mod Named
mod Samples
pub mod Front
