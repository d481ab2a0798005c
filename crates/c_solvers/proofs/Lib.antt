pub mod Walks
mod Told
pub mod Mated
