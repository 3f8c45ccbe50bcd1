pub mod Parts
pub mod Calls
pub mod Waiting
pub mod Sound
pub mod Turning
pub mod Following
pub mod Telling
pub mod Playing
