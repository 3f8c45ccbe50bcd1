pub mod Faults
pub mod MemoryShelf
pub mod MemorySink
pub mod Reading
pub mod Said
pub mod Shelf
pub mod Sink
pub mod Stream
