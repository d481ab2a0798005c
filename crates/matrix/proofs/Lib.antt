pub mod All
pub mod Terms
pub mod Tabulated
pub mod Entries
pub mod Arrays
pub mod Filled
pub mod Tested
