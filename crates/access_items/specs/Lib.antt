pub mod Mark
pub mod Note
pub mod Rank
pub mod Sorted
pub mod Laws
