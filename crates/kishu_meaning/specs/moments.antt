pub mod Accesses
pub mod Moment
pub mod Counting
