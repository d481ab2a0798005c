pub mod Passes
pub mod Structs
pub mod Ends
