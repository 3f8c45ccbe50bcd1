pub mod Cycles
pub mod Items
