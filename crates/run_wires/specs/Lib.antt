pub mod Seen
pub mod Text
pub mod Trace
pub mod Ending
pub mod HeardSoFar
