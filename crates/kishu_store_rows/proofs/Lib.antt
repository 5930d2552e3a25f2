pub mod OnLiterals
pub mod Records
pub mod FittingRecords
mod RecordByteRows
mod NameRows
mod GraphRows
mod HistoryRows
mod StoredGroupRows
mod TableRows
mod KeptTableRows
mod FittingRows
mod FollowingRows
mod SessionRows
mod KindRows
mod RefusalRows
mod CellRequestRows
mod WalkRows
mod SeveralRows
mod BranchRows
mod AnswerRows
mod LineRows
mod NotebookFaultRows
mod MoreNotebookFaultRows
mod NotebookRunRows
mod ChargeRows
mod LimitRows
mod FileRows
mod BrokenRows
mod GeneratedRows
mod TargetRows
mod LargeRows
mod RecordRuleRows
