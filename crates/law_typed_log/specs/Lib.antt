pub mod Typing
pub mod Typed
