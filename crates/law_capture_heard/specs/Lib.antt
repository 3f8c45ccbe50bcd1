pub mod Captured
pub mod Seen
pub mod Pulses
pub mod Found
