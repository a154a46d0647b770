pub mod Noted
pub mod Mark
pub mod Twins
pub mod Rulings
pub mod Laws
