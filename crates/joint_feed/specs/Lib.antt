pub mod Course
pub mod Ahead
pub mod Stories
pub mod Filled
