mod Cycles
mod Pins
mod Steps
mod Turns
