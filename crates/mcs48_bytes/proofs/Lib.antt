pub mod Choices
pub mod ProcessorRead
