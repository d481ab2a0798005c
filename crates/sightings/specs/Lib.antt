-- The definitions that the contracts cite.
pub mod Sights
pub mod Laid
