pub mod States
pub mod OnLiterals
mod ShapeRows
mod LoadingRows
mod OrderRows
mod PictureRows
mod GroupRows
mod SameRows
mod MoreSameRows
mod ByteRows
mod PictureByteRows
mod SizeRows
mod FieldRows
mod MoreFieldRows
mod FunctionRows
pub mod Histories
mod AlikeRows
mod ChangedRows
mod VersionRows
mod WayRows
mod TouchedRows
mod MoreTouchedRows
mod StateRows
mod FitRows
mod PicturedRows
mod CheckoutRows
mod CarriedRows
mod StoredRows
mod CutRows
mod RightRows
mod AccessedRows
mod SmallRows
mod LongRows
pub mod GoodRows
mod AttachedRows
