pub mod Opened
pub mod Edges
pub mod Instance
pub mod Sequences
