pub mod Pulses
pub mod Frames
pub mod Listening
