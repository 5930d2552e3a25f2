pub mod Views
pub mod Trees
pub mod Turns
pub mod Statements
pub mod Sets
pub mod TopLevel
pub mod TopLaws
