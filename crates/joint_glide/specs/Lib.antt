pub mod Still
pub mod Uneventful
pub mod Calls
