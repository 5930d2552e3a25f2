pub mod Stack
pub mod Shown
pub mod Turns
pub mod Plainly
