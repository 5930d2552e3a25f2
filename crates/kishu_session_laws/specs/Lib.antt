pub mod CellLaws
pub mod RunLaws
pub mod WrittenLaws
pub mod StoredLaws
