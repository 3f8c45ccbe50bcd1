pub mod AtRest
pub mod Counting
pub mod Hearing
pub mod Hits
pub mod Looked
pub mod Over
pub mod Reading
pub mod Sights
