pub mod Partly
pub mod Places
pub mod Values
pub mod Views
