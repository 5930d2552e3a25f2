pub mod Sums
pub mod Parts
pub mod Renewed
pub mod Taken
pub mod Turns
