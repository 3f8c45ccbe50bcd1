mod Rows
mod OneKey
mod Placed
mod Readings
pub mod Once
mod Taking
