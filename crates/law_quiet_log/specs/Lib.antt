pub mod Quiet
pub mod Once
pub mod Length
pub mod Ports
