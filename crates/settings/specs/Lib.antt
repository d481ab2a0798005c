pub mod Frame
pub mod Optional
pub mod Fields
pub mod Settings
