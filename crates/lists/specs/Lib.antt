pub mod Lay
pub mod First
pub mod Sift
pub mod Same
pub mod Table
pub mod Masks
pub mod Each
