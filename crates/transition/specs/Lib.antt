pub mod Glide
