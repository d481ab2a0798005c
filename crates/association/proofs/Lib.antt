-- The laws that the proofs cite.
pub mod Telling
pub mod Columns
pub mod Ties
