pub mod Faults
pub mod Fields
pub mod Entries
pub mod TopLevel
pub mod Layouts
pub mod Documents
