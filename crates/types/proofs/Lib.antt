pub mod Overs
pub mod Numbers
