pub mod Spaced
pub mod Turning
pub mod Placed
pub mod Room
pub mod Law
pub mod Entering
