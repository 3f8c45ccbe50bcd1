pub mod Fates
pub mod Noise
