pub mod Lines
pub mod Puts
pub mod Taken
pub mod Pieces
pub mod Takes
