pub mod Contents
pub mod TokenSizes
pub mod ValueSizes
