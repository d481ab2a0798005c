pub mod OneOne
pub mod Exact
pub mod Values
