pub mod Changes
pub mod Finds
pub mod Passing
pub mod Pops
pub mod PopsAt
pub mod SortsSound
pub mod Edits
mod Joins
mod PieceLengths
mod TextEnds
mod TextRows
mod TextSteps
mod DictNodes
mod Calls
