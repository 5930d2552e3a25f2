pub mod Carries
pub mod CarriesPhrases
pub mod CarriesStatements
pub mod CutShort
pub mod PiecesShort
