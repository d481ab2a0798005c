pub mod Texts
pub mod Digits
