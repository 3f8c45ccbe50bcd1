pub mod Limits
pub mod Periods
pub mod Watching
