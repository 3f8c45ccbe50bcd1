pub mod Every
