pub mod FromBytes
pub mod Pictured
