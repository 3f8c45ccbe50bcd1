pub mod Plan
pub mod Faults
pub mod Kept
pub mod Types
