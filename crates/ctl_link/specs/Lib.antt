pub mod Empty
pub mod Link
pub mod Pulls
