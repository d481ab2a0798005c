pub mod Stores
pub mod Places
pub mod Ascending
pub mod Noting
pub mod Positions
