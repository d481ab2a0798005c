pub mod Reading
pub mod Claim
