mod Testing
mod Tested
mod Looking
mod Keeping
mod States
mod Starts
mod Rising
mod Ready
