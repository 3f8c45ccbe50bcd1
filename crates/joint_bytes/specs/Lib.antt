pub mod Links
pub mod Sides
pub mod Kinds
pub mod Lists
