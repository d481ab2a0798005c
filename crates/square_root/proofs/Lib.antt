pub mod Squares
pub mod Patterns
pub mod Powers
pub mod Digits
pub mod Fields
pub mod Midpoints
pub mod Cases
pub mod Above
