pub mod Nearing
pub mod Listing
pub mod Aging
pub mod Seeing
