pub mod OnLiterals
mod FirstCell
mod Records
mod Sessions
mod Bound
mod Inputs
mod Notebooks
mod Files
mod Stored
mod Planned
mod Generated
