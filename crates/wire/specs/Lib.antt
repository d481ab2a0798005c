pub mod Digest
pub mod Names
