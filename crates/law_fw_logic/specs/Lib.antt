pub mod Boards
pub mod Scan
pub mod Ticks
pub mod Blocks
pub mod Steps
pub mod Executed
pub mod Selecting
