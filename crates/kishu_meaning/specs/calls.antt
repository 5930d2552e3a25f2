pub mod Methods
pub mod Operators
pub mod Builtins
pub mod Callees
pub mod Functions
