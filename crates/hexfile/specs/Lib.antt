pub mod Record
pub mod Memory
pub mod Rules
pub mod Hex
pub mod Spelling
