pub mod RunsAlike
pub mod Sessions
pub mod SaysBeginning
