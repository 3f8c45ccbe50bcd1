pub mod Pointing
pub mod Forms
pub mod Through
pub mod SampleKeys
pub mod Texts
