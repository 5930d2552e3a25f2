pub mod Pushing
pub mod Spelling
pub mod Places
pub mod Bindings
