pub mod Beginning
pub mod Counts
pub mod Feeding
pub mod Going
pub mod Afterwards
