pub mod Listed
pub mod Request
pub mod Asking
