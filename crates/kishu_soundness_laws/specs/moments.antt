pub mod Steps
pub mod Heap
pub mod Names
