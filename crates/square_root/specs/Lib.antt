pub mod Root
pub mod RootSteps
