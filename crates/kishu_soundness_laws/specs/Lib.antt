pub mod Below
pub mod BelowLaws
pub mod moments
pub mod values
pub mod items
pub mod calls
pub mod comparing
pub mod cells
