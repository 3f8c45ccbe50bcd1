pub mod Bits
pub mod Bios
pub mod Flags
pub mod Keys
pub mod Rules
