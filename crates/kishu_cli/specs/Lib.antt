pub mod Silent
pub mod Calls
pub mod Faults
pub mod Folders
pub mod Adapters
