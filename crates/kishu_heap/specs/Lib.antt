pub mod Cells
pub mod Changing
pub mod Compared
pub mod Costs
pub mod Tells
