pub mod Cases
pub mod Columns
pub mod Frames
pub mod Shown
mod Rows
