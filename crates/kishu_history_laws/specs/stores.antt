pub mod ReplayLaws
pub mod StoreLaws
pub mod AttachedLaws
pub mod BackLaws
