pub mod Cells
pub mod Notebook
pub mod Setting
pub mod Run
