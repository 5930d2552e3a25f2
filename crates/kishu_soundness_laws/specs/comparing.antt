pub mod Comparing
pub mod Show
