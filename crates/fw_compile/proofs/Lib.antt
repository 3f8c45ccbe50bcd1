pub mod Tables
pub mod Bits
pub mod Kernel
pub mod Keys
