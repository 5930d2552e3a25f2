pub mod Access
pub mod Forms
