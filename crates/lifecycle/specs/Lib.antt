pub mod Lifecycle
pub mod Sensors
