pub mod Indexes
pub mod KeyOf
pub mod Sequences
pub mod Finding
pub mod Sorting
pub mod Subscripts
pub mod Walks
