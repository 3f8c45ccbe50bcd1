pub mod Digits
pub mod Places
pub mod Rows
pub mod Back
pub mod BackRows
