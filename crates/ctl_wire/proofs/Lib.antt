pub mod Pulls
pub mod Taken
