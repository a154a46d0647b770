pub mod Reply
pub mod Laws
