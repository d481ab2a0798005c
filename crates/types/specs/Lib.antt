pub mod Track
pub mod Batches
pub mod States
pub mod Refusals
pub mod Fresh
