pub mod Plans
pub mod Asked
pub mod Answers
pub mod PrintAlike
pub mod BoardSays
pub mod Reached
pub mod Causes
pub mod Complete
