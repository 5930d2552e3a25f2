pub mod WholeNumbers
pub mod TakingLaws
pub mod GivingLaws
pub mod GivenRows
pub mod StateLaws
pub mod PictureLaws
pub mod PlaceLaws
pub mod OwnLaws
