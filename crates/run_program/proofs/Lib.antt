pub mod Lines
pub mod ComesToEnd
pub mod Ends
pub mod BrokenOff
pub mod ReportedByStamp
pub mod Alike
pub mod EndOf
