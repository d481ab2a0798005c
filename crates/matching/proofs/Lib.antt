-- The laws that the proofs cite.
pub mod Taking
pub mod Stage
pub mod Ties
