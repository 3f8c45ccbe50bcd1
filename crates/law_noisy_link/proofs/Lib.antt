pub mod Cycles
pub mod Resends
pub mod Links
pub mod Counted
pub mod Keys
pub mod Again
pub mod Ending
pub mod Parted
