pub mod Reports
pub mod Runs
pub mod Whole
