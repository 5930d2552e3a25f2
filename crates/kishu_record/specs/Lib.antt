pub mod Entries
pub mod Readings
pub mod Took
pub mod Commits
