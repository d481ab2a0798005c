pub mod Picking
pub mod Masks
pub mod Group
pub mod Once
pub mod Joined
pub mod Parts
pub mod Composed
