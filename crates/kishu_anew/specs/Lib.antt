pub mod Anew
pub mod WholeLaws
