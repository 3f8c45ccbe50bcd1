pub mod Splits
pub mod FirstLine
pub mod FirstField
pub mod Digits
pub mod Afterwards
