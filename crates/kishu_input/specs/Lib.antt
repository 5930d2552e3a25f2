pub mod Begun
pub mod Lines
pub mod Sources
pub mod Telling
pub mod Starts
