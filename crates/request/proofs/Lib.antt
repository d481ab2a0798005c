pub mod Lists
pub mod Numbers
pub mod Heads
pub mod Tables
pub mod Asks
