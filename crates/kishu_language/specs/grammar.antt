pub mod Language
pub mod Grammar
pub mod Targets
pub mod Refusals
pub mod Statements
pub mod Pieces
pub mod Parse
