pub mod Bounces
