pub mod Limits
pub mod tokens
pub mod rules
pub mod trees
pub mod grammar
pub mod reading
