pub mod OfLines
pub mod StillAddsNothing
pub mod SampleIsOfState
pub mod TraceIsSaid
