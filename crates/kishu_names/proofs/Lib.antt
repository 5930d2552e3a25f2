pub mod Records
pub mod Bound
pub mod Kept
