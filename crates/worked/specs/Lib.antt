pub mod Case
pub mod Lines
pub mod Roots
pub mod Filters
pub mod Lifecycles
pub mod Sequences
pub mod Table
