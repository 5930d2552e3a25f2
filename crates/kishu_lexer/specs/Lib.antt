pub mod Views
pub mod Machine
pub mod Edges
