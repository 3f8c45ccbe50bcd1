pub mod Queue
pub mod Calls
pub mod Laws
