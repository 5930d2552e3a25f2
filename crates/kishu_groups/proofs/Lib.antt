pub mod Roots
pub mod Joins
pub mod Notes
pub mod Walked
pub mod Heads
pub mod Steps
pub mod Puts
