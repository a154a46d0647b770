pub mod Rows
pub mod Mark
pub mod Rank
pub mod Note
pub mod Items
pub mod Sorted
