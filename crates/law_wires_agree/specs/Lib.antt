pub mod Cells
pub mod Cycles
pub mod Flips
pub mod InFrame
pub mod Laws
pub mod Ticks
pub mod Without
