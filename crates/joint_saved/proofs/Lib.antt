pub mod Pieces
pub mod Columns
pub mod Loads
pub mod Understood
