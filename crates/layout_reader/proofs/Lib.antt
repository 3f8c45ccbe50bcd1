pub mod Codes
pub mod FnKey
pub mod Laws
pub mod Names
pub mod Steps
