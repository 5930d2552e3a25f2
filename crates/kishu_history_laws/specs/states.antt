pub mod AlikeLaws
pub mod StateLaws
pub mod NameLaws
pub mod LoadLaws
pub mod SameLaws
pub mod SoundLaws
pub mod PictureSizes
