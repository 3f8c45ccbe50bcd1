pub mod Ticks
pub mod Alone
pub mod Taking
