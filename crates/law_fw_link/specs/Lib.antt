pub mod Drives
pub mod Latch
pub mod Frames
pub mod Reading
