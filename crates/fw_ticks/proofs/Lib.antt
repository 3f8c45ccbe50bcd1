pub mod Numbers
pub mod AtTick
