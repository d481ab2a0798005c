pub mod Settled
pub mod Moving
pub mod Ending
pub mod Taking
