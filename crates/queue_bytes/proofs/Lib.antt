pub mod Matrices
pub mod Places
pub mod Back
pub mod Checked
pub mod Loads
