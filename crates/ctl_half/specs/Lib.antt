pub mod Controllers
pub mod Saves
