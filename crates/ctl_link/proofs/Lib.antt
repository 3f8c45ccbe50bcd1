pub mod Breaks
pub mod Empty
pub mod Pulls
pub mod Settled
