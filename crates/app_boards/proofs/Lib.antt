pub mod BoardsAreSaid
pub mod ScriptsAreAnswered
