pub mod Equal
pub mod Show
pub mod Comparing
