pub mod Cholesky
pub mod Definite
pub mod Factor
