-- The definitions that the contracts cite.
pub mod Takers
pub mod Stage
