pub mod Encoding
pub mod Instructions
pub mod Listing
pub mod Memory
pub mod Operands
pub mod Rows
pub mod Table
pub mod Text
