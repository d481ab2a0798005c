pub mod Reply
pub mod Float
pub mod Time
