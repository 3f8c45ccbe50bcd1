pub mod TickEdges
pub mod Debounce
pub mod Machine
pub mod Expected
pub mod Laws
pub mod KeptSide
pub mod Passing
pub mod Seeing
