pub mod KeyOf
pub mod Subscripts
pub mod Sequences
pub mod Walks
pub mod Sorting
