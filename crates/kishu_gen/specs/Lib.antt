pub mod Scripts
pub mod Summaries
