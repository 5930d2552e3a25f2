pub mod reading
pub mod staying
pub mod trees
pub mod codes
