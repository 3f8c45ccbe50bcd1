pub mod Alike
pub mod Outcomes
pub mod Sessions
pub mod Boards
