pub mod Parts
pub mod Ways
pub mod Expressions
pub mod Places
pub mod Statements
pub mod Cells
