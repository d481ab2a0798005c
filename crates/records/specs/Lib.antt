pub mod Layout
pub mod Tracks
pub mod Configs
pub mod Trackers
