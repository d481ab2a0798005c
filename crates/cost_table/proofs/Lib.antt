-- The laws that the proofs cite.
pub mod Tabling
pub mod Pricing
