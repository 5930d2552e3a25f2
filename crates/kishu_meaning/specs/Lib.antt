pub mod values
pub mod moments
pub mod comparing
pub mod items
pub mod calls
pub mod cells
