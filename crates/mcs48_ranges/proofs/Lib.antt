pub mod Operands
pub mod Rows
pub mod Parts
pub mod Moves
pub mod Flow
pub mod Steps
