pub mod Owned
pub mod Back
pub mod Sizes
pub mod Written
pub mod Typed
