pub mod Wires
pub mod Ears
pub mod Rules
pub mod Ticks
pub mod Hearing
pub mod Bounds
pub mod AnyPins
pub mod AnyHost
