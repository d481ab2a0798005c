pub mod Gliding
