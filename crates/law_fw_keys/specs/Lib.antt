pub mod State
pub mod Edges
pub mod Healing
pub mod Frameless
pub mod Resets
