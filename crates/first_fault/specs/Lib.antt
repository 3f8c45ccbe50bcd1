pub mod FirstFault
pub mod Law
