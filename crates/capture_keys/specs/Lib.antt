pub mod Codes
pub mod Keys
pub mod Typed
pub mod KeyTexts
pub mod Laws
