pub mod Through
pub mod Carrying
pub mod Predicting
pub mod Reached
pub mod Noting
pub mod Correcting
pub mod Bearing
pub mod Parts
