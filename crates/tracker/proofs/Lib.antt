pub mod Priors
pub mod Predicting
pub mod Showing
pub mod Owning
