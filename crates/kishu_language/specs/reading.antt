pub mod Reader
pub mod ReadExpressions
pub mod ReadStatements
pub mod ReadText
