pub mod Trace
pub mod Edges
pub mod Instance
pub mod Sequences
