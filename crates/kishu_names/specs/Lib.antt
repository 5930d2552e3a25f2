pub mod Record
pub mod Namespace
