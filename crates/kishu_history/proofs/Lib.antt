mod HistoryExamples
mod PathExamples
mod LocalityExamples
