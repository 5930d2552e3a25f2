pub mod Ends
pub mod RangeNumbers
pub mod Parts
pub mod Copying
pub mod Items
pub mod Pushing
pub mod Found
