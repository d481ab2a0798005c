pub mod Back
