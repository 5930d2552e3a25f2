pub mod Entries
pub mod Changes
pub mod Soundness
pub mod Counts
pub mod Held
pub mod Walks
pub mod OrderWalks
pub mod Told
