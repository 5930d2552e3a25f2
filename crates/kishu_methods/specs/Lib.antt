pub mod Called
pub mod Contents
pub mod TextValues
