pub mod Picks
pub mod Selected
pub mod Plain
pub mod Reading
