pub mod Texts
pub mod Keyed
pub mod Turns
pub mod Moves
pub mod Codes
pub mod SoundNames
pub mod Binding
pub mod Loads
