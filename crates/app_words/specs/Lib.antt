pub mod Words
pub mod Kinds
pub mod Exits
pub mod Refusals
