pub mod TableLaws
pub mod RecordLaws
pub mod FileLaws
pub mod SplitLaws
pub mod WithinLaws
