pub mod Choices
pub mod ToldMoves
pub mod Refusing
pub mod SameCall
pub mod AsList
pub mod Promises
