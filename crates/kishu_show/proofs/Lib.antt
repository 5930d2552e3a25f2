pub mod Ascii
pub mod Parts
pub mod Walks
pub mod Nodes
pub mod Titles
pub mod Joins
pub mod Ends
pub mod Exceptions
