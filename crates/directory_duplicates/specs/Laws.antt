pub mod Mark
pub mod Twins
pub mod Rulings
