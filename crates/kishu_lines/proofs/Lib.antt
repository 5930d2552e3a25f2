pub mod Lists
pub mod Floats
pub mod Readings
pub mod Members
pub mod Tellings
pub mod Rooms
mod Rows
