pub mod LineRules
pub mod TextRules
pub mod PieceRules
pub mod TokenRules
