pub mod One
pub mod Left
pub mod Refusing
pub mod Whole
