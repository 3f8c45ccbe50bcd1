pub mod Passing
pub mod Hearing
pub mod Probing
