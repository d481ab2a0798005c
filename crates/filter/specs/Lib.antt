pub mod Kalman
pub mod Filter
