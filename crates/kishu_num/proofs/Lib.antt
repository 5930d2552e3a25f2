pub mod Ranges
pub mod Division
pub mod Products
pub mod Halves
pub mod White
pub mod Reading
