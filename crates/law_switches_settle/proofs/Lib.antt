mod Runs
mod Arrivals
