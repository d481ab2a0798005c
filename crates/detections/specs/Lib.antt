pub mod Detection
pub mod Pairs
pub mod Far
pub mod Births
