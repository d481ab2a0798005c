pub mod Integer
pub mod Whole
pub mod Takers
pub mod OneOne
