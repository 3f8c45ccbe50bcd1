pub mod Cycle
pub mod Host
pub mod Rest
pub mod Run
