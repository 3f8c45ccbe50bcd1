pub mod Timed
pub mod Alike
pub mod Growing
pub mod Acting
pub mod Stepping
pub mod Calling
pub mod Meeting
pub mod Passed
pub mod Gliding
mod Answering
mod LastBit
mod Limits
mod Tallying
mod Rows
mod Onwards
mod Running
mod Starting
