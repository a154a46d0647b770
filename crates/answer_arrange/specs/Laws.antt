pub mod Weak
pub mod Sort
pub mod Arrange
