pub mod Picks
pub mod Group
pub mod Solvers
