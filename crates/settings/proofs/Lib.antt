pub mod Firsts
pub mod Frames
pub mod Defaults
