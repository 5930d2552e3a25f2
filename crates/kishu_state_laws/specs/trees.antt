pub mod Sound
pub mod Literals
pub mod Tokens
pub mod Read
pub mod Places
