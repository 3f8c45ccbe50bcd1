pub mod Cycles
pub mod Pulls
pub mod Wire
pub mod Wires
