pub mod RunTexts
pub mod Sampling
pub mod RunAnswers
pub mod RunOfText
pub mod InTime
