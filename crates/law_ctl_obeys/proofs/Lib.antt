pub mod InBytes
pub mod LinkSteps
pub mod CtlRules
pub mod Joined
