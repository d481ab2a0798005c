pub mod Back
pub mod Overs
pub mod Sizes
pub mod Made
