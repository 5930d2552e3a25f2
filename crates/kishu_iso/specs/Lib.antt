pub mod Wholes
pub mod Parts
