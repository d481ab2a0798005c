pub mod Boundary
pub mod Mates
