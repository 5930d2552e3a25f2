pub mod Steps
pub mod Places
pub mod Putting
pub mod Summing
pub mod Sizes
pub mod Reached
pub mod Found
