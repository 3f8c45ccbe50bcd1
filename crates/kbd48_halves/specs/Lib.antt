pub mod Placed
pub mod Lends
pub mod Queueing
pub mod Words
