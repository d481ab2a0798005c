pub mod Beginning
pub mod Placing
