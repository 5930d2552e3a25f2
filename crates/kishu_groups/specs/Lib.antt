pub mod Classes
pub mod Marks
pub mod Gathering
pub mod Held
