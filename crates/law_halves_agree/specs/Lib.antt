pub mod Loop
pub mod Acts
pub mod Law
