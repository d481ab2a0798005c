pub mod One
pub mod Walk
