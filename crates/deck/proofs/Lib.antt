mod Alike
mod Apart
mod Few
mod Keeping
mod Ordered
mod Resolved
mod Sweeps
mod Together
