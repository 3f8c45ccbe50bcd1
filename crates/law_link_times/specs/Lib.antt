pub mod Coming
pub mod Flowing
pub mod Holding
pub mod Latency
pub mod Reads
