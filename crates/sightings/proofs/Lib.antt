-- The laws that the proofs cite.
pub mod Sights
pub mod Same
