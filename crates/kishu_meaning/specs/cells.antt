pub mod Ways
pub mod Meaning
