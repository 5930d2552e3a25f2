pub mod Ways
pub mod Parts
pub mod Expressions
pub mod Places
pub mod Statements
pub mod Cells
