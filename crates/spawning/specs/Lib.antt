pub mod Spawn
pub mod Ruling
