pub mod Logs
pub mod Agreed
pub mod Ends
pub mod Keys
pub mod Runs
pub mod Queued
pub mod Saved
pub mod Opened
