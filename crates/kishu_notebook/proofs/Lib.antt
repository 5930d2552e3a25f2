pub mod Lists
pub mod Sizes
pub mod Members
pub mod Kept
pub mod Past
pub mod Changes
pub mod Verdicts
pub mod Ids
pub mod FaultRows
mod Rows
