pub mod Shapes
mod Samples
