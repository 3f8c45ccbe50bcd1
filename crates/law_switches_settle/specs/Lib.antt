pub mod Running
pub mod Reading
