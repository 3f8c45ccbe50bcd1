pub mod Debugging
pub mod BoardTexts
pub mod BoardAnswers
pub mod SessionAnswers
pub mod BoardOfText
