pub mod Steps
pub mod Heap
pub mod Counting
pub mod Accesses
pub mod NamesInOrder
pub mod Names
