pub mod Moves
pub mod Passing
pub mod Tracks
