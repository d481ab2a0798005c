pub mod Turn
pub mod Numbers
pub mod Scan
pub mod Step
pub mod Free
pub mod Search
pub mod Rows
pub mod Square
