pub mod Lists
pub mod Cells
pub mod Rising
pub mod Heads
pub mod CommitHeads
pub mod Sums
