pub mod Old
pub mod Corresponds
pub mod File
pub mod Promises
