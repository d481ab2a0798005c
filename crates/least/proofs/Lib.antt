pub mod Padding
pub mod Lists
pub mod Sentinel
pub mod Dense
pub mod Answer
