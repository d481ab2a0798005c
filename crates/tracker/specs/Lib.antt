pub mod Owner
