pub mod Commands
pub mod Controller
pub mod Parts
pub mod ScanCodes
pub mod Translation
