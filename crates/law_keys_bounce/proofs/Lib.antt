pub mod Bouncing
