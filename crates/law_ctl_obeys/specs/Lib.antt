pub mod Controller
pub mod AtController
