pub mod Arrange
pub mod Laws
