pub mod CountsParse
pub mod OptionsAreFew
