pub mod KeyOf
pub mod Finding
pub mod Sequences
pub mod Indexes
pub mod Subscripts
pub mod Walks
pub mod Sorting
