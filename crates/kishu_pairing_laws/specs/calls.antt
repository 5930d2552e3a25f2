pub mod Operators
pub mod Methods
pub mod Builtins
pub mod Callees
pub mod Functions
