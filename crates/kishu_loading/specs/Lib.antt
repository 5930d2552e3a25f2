pub mod Loaded
pub mod Moving
pub mod Fronts
pub mod Seen
pub mod Coded
pub mod Parts
pub mod Told
