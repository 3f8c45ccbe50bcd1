pub mod Spinning
