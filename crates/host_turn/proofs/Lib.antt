pub mod Going
pub mod Keeps
pub mod Rest
pub mod Turns
