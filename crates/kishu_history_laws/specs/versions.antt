pub mod VersionLaws
pub mod EarliestLaws
pub mod PathLaws
