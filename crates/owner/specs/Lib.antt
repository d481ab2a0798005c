pub mod Owner
pub mod Processes
