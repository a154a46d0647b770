pub mod Schema
pub mod Laws
