pub mod Isotropic
