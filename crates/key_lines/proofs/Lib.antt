pub mod Numerals
pub mod Parted
pub mod Said
pub mod Owned
pub mod Told
pub mod Sizes
