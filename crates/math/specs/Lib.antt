pub mod Refusing
pub mod Linalg
