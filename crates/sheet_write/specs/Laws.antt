pub mod Put
pub mod Writing
