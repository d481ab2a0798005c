pub mod Checking
pub mod Rules
pub mod Verdicts
pub mod Distances
pub mod Edges
