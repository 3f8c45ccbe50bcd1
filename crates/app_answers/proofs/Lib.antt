pub mod StepsGoOn
pub mod KeysGiveCodes
pub mod BytesAreSaid
pub mod ShelvesGive
pub mod FileExits
pub mod EndStates
pub mod AreSpoken
pub mod CapturesAreSaid
