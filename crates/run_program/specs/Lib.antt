pub mod BoardOutcomes
pub mod Texts
pub mod Ending
pub mod Putting
pub mod Tracing
