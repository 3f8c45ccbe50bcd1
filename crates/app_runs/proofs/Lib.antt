pub mod RunPrintsExpected
pub mod StrokesAreAccepted
pub mod StartsAreLines
pub mod RunsAreSaid
pub mod LinesAreInText
