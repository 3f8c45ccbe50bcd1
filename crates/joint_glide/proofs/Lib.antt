pub mod Steps
pub mod Stretches
pub mod Turns
pub mod NoStep
