pub mod Lines
pub mod Receiving
pub mod Counting
pub mod Speech
pub mod Timing
pub mod Summary
pub mod Captures
