pub mod Keyboards
pub mod Rests
pub mod Saves
