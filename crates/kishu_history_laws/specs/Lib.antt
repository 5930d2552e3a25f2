pub mod Choices
pub mod states
pub mod versions
pub mod tables
pub mod cells
pub mod checkouts
pub mod stores
