pub mod First
pub mod KeyLaws
pub mod WordLaws
