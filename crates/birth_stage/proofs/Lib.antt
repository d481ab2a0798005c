pub mod Deciding
pub mod Walking
pub mod Staging
pub mod Growing
